-- A label's predicate is closed, so that closing it changes nothing.
use Rattle.std.proofs.Common.{◌≡◌}
use Rattle.std.proofs.Math.Logic.{∥∥₁_elim}
use Rattle.abc_pred.specs.Terms.{Operand, Literal, Attr, This, Var, Add, Sub, Mul, Size, Free}
use Rattle.abc_pred.specs.Terms.{Pred, True, False, Same, Less, Member, Not, And, Or}
use Rattle.abc_pred.specs.Maps.{Entries}
use Rattle.abc_pred.specs.Meaning.{close, IsClosed, IsClosedOperand}
use Rattle.abc_pred.proofs.Closing.{close-again}

closed_operand_prop : (o : Operand) → IsProp (IsClosedOperand o)
closed_operand_prop (Literal v) = hlevel
closed_operand_prop (Attr a) = hlevel
closed_operand_prop (This a) = hlevel
closed_operand_prop (Var x) = hlevel
closed_operand_prop (Add l r) = hlevel (closed_operand_prop l, closed_operand_prop r)
closed_operand_prop (Sub l r) = hlevel (closed_operand_prop l, closed_operand_prop r)
closed_operand_prop (Mul l r) = hlevel (closed_operand_prop l, closed_operand_prop r)
closed_operand_prop (Size o) = closed_operand_prop o
closed_operand_prop (Free o) = closed_operand_prop o

-- that a predicate is closed has one proof
closed_prop : (p : Pred) → IsProp (IsClosed p)
closed_prop True = hlevel
closed_prop False = hlevel
closed_prop (Same l r) = hlevel (closed_operand_prop l, closed_operand_prop r)
closed_prop (Less l r) = hlevel (closed_operand_prop l, closed_operand_prop r)
closed_prop (Member l r) = hlevel (closed_operand_prop l, closed_operand_prop r)
closed_prop (Not p) = closed_prop p
closed_prop (And p q) = hlevel (closed_prop p, closed_prop q)
closed_prop (Or p q) = hlevel (closed_prop p, closed_prop q)

pub closing_keeps : (p : Pred) (own vars : Entries) → ∥ IsClosed p ∥₁ → close p own vars ≡ p
closing_keeps p own vars closed =
    close-again p (∥∥₁_elim closed (closed_prop p) (λ c. c)) own vars
