use Rattle.std.proofs.Common.{ℕ}
use Rattle.abc_shape.specs.Routes.{IsUnder, IsChild}
use Rattle.abc_shape.proofs.routes.child_above.Given as goal

abbrev pub invariant-loop-at : goal.invariant-loop-at
invariant-loop-at l = IsUnder l.at l.fn.below × ((c : ℕ) → IsChild l.fn.node c → IsUnder c l.fn.below → IsUnder c l.at)

abbrev pub decreases-loop-at : goal.decreases-loop-at
decreases-loop-at l = l.at
