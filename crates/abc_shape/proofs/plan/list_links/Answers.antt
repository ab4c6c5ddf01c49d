use Rattle.std.proofs.Common.{arith}
use Rattle.abc_shape.proofs.Listed.{one-more, all-listed, length-snoc}
use Rattle.abc_shape.proofs.plan.list_links.Goals as goal

pub loop-number-preserved : goal.loop-number-preserved
loop-number-preserved c =
    (length-snoc _ _ _ _ c.in_ok-push.ensures.ok c.loop-number.invariant.0, one-more _ _ _ _ _ c.in_ok-push.ensures.ok c.loop-number.invariant.0 c.loop-number.invariant.1 c.ends_of.ensures)

pub returns : goal.returns
returns c = all-listed c.args.layout c.loop-number.links c.requires (omega (arith, c.loop-number.invariant.0, c.count_links-count.ensures.count)) c.loop-number.invariant.1
