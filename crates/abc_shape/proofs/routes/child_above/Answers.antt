use Rattle.std.proofs.Common.{arith, ap, ◌∙◌}
use Rattle.abc_shape.specs.Plans.{step_up}
use Rattle.abc_shape.proofs.Steps.{under-le, under-parent, under-step}
use Rattle.abc_shape.proofs.routes.child_above.Goals as goal

pub returns-then-parent-node : goal.returns-then-parent-node
returns-then-parent-node c =
    let low = under-le c.loop-at.at c.args.below c.loop-at.invariant.0 in
    ((omega arith, c.if-parent-node.true), c.loop-at.invariant.0, omega arith)

pub loop-at-preserved : goal.loop-at-preserved
loop-at-preserved c = (
  under-parent c.loop-at.at c.args.below c.loop-at.invariant.0,
  λ top child under. under-step top c.loop-at.at (c.loop-at.invariant.1 top child under) (λ e. c.if-parent-node.false (ap step_up e ∙ child.1)),
)

pub returns : goal.returns
returns c top child under =
    let high = under-le top c.loop-at.at (c.loop-at.invariant.1 top child under) in
    let less = child.0 in let same = child.1 in omega arith
