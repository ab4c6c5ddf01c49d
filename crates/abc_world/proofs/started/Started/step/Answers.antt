use Rattle.std.proofs.Common.{sym, subst}
use Rattle.abc_world.specs.Starting.{HasRoom}
use Rattle.abc_world.proofs.Startings.{clocks-low, started-after}
use Rattle.abc_world.proofs.started.Started.step.Goals as goal

-- no clock comes to the greatest
pub step-requires-clause-low : goal.step-requires-clause-low
step-requires-clause-low g c κs within =
    clocks-low g.B.Body.meaning g.M.Node.machine g.M.Node.blank c.self.inside.network c.self.invariant.0

pub invariant_of-self : goal.invariant_of-self
invariant_of-self g c =
    let kept = started-after g.B.Body.meaning g.M.Node.machine g.M.Node.blank c.self.inside.network c.step.new.self
    c.args.event.now.actor c.args.event.now.kind c.self.inside.in_links.items c.step.result c.step.ensures.same
    c.step.ensures.answers c.step.ensures.err (c.self.invariant.0, c.self.invariant.1) in
    (kept.0, kept.1, subst (λ p. HasRoom p c.self.inside.logs) (sym c.step.ensures.same.plan) c.self.invariant.2)
