use Rattle.std.proofs.Common.{◌∙◌, sym}
use Rattle.abc_world.proofs.OneCounted.{draw-all}
use Rattle.abc_world.proofs.counter.OneCounterNumbers.draw.Goals as goal

-- the limit stays, and Closed comes only after all
pub invariant_of-self : goal.invariant_of-self
invariant_of-self c = record {
  same = c.self.invariant.same ∙ sym c.draw.ensures.limit;
  all = draw-all c.self.inside.counter c.draw.new.self c.draw.result c.draw.ensures.granted c.draw.ensures.closed
      c.draw.ensures.limit;
}
