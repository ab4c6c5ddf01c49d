use Rattle.abc_shape.proofs.Listed.{found, other-ends, not-there}
use Rattle.abc_shape.proofs.plan.Plan.link.Goals as goal

pub returns-in_err-number : goal.returns-in_err-number
returns-in_err-number c = rw (c.from_residual.ensures, ← c.self.view_is) c.in_err-number.ensures

pub returns-in_err-ends : goal.returns-in_err-ends
returns-in_err-ends c = rw (c.from_residual-in_err-ends.ensures, ← c.self.view_is) (not-there _ _ _ _ _ c.self.invariant.links c.in_err-ends.ensures c.in_ok-number.ensures)

pub returns-then-eq : goal.returns-then-eq
returns-then-eq c = rw (← c.self.view_is) (found _ _ _ _ _ _ c.self.invariant.links c.in_ok-ends.ensures c.if-eq.ensures)

pub returns-else-eq : goal.returns-else-eq
returns-else-eq c = rw (← c.self.view_is) (other-ends _ _ _ _ _ _ c.self.invariant.links c.in_ok-ends.ensures c.if-eq.ensures c.in_ok-number.ensures)
