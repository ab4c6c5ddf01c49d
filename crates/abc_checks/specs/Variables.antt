-- Variables that no enclosing input binds. An input binds its variables in its own predicate, in its updates and in what
-- follows; `bound` has the variables of the inputs around a part.
use Rattle.std.specs.Prelude.{◌++◌, ◌||◌, Bool, false, not, List}
use Rattle.std.specs.List.{list_any}
use Rattle.abc_pred.specs.declared.names.Name.{Name}
use Rattle.abc_pred.specs.Maps.{lists}
use Rattle.abc_pred.specs.Terms.{Operand, Literal, Attr, This, Var, Add, Sub, Mul, Size, Free, Expr, Plain, SetOf, Union, Without, Pred, True, False, Same, Less, Member, Not, And, Or}
use Rattle.abc_term.specs.Processes.{Process, Nil, Output, Input, When, Choice, Par, Call, Update}

abbrev pub operand_open : List Name → Operand → Bool
operand_open bound (Literal v) = false
operand_open bound (Attr a) = false
operand_open bound (This a) = false
operand_open bound (Var x) = not (lists bound x)
operand_open bound (Add l r) = operand_open bound l || operand_open bound r
operand_open bound (Sub l r) = operand_open bound l || operand_open bound r
operand_open bound (Mul l r) = operand_open bound l || operand_open bound r
operand_open bound (Size o) = operand_open bound o
operand_open bound (Free o) = operand_open bound o

abbrev pub expr_open : List Name → Expr → Bool
expr_open bound (Plain o) = operand_open bound o
expr_open bound (SetOf os) = list_any (operand_open bound) os
expr_open bound (Union l r) = expr_open bound l || expr_open bound r
expr_open bound (Without l r) = expr_open bound l || expr_open bound r

abbrev pub pred_open : List Name → Pred → Bool
pred_open bound True = false
pred_open bound False = false
pred_open bound (Same l r) = operand_open bound l || operand_open bound r
pred_open bound (Less l r) = operand_open bound l || operand_open bound r
pred_open bound (Member l r) = operand_open bound l || operand_open bound r
pred_open bound (Not p) = pred_open bound p
pred_open bound (And p q) = pred_open bound p || pred_open bound q
pred_open bound (Or p q) = pred_open bound p || pred_open bound q

abbrev pub exprs_open : List Name → List Expr → Bool
exprs_open bound es = list_any (expr_open bound) es

abbrev pub updates_open : List Name → List Update → Bool
updates_open bound us = list_any (λ u. expr_open bound u.1) us

-- The process has a variable that is neither in `bound` nor bound by an input around it.
abbrev pub process_open : List Name → Process → Bool
process_open bound Nil = false
process_open bound (Output es p us P) = exprs_open bound es || pred_open bound p || updates_open bound us || process_open bound P
process_open bound (Input p xs us P) =
    pred_open (xs ++ bound) p || updates_open (xs ++ bound) us || process_open (xs ++ bound) P
process_open bound (When g P) = pred_open bound g || process_open bound P
process_open bound (Choice P Q) = process_open bound P || process_open bound Q
process_open bound (Par P Q) = process_open bound P || process_open bound Q
process_open bound (Call c) = false
