-- P[v/x]: values put for the free occurrences of variables.
use Rattle.std.specs.Prelude.{List, [], ◌∷◌, map, filter, not, if◌then◌else◌}
use Rattle.abc_value.specs.declared.value.Value.{Value}
use Rattle.abc_pred.specs.declared.names.Name.{Name}
use Rattle.abc_pred.specs.Terms.{Operand, Literal, Attr, This, Var, Add, Sub, Mul, Size, Free, Expr, Plain, SetOf, Union, Without, Pred, True, False, Same, Less, Member, Not, And, Or}
use Rattle.abc_pred.specs.Maps.{same_name, lists}
use Rattle.abc_term.specs.Processes.{Process, Nil, Output, Input, When, Choice, Par, Call, Update}

-- [v/x]: a value for each of some variables.
abbrev pub Values : Type 0
Values = List (Name × Value)

-- A variable becomes the literal of its value, or stays where it has none.
abbrev pub put_variable : Values → Name → Operand
put_variable [] x = Var x
put_variable (b ∷ bs) x = if same_name b.0 x then Literal b.1 else put_variable bs x

abbrev pub put_operand : Values → Operand → Operand
put_operand bs (Literal v) = Literal v
put_operand bs (Attr a) = Attr a
put_operand bs (This a) = This a
put_operand bs (Var x) = put_variable bs x
put_operand bs (Add l r) = Add (put_operand bs l) (put_operand bs r)
put_operand bs (Sub l r) = Sub (put_operand bs l) (put_operand bs r)
put_operand bs (Mul l r) = Mul (put_operand bs l) (put_operand bs r)
put_operand bs (Size o) = Size (put_operand bs o)
put_operand bs (Free o) = Free (put_operand bs o)

abbrev pub put_expr : Values → Expr → Expr
put_expr bs (Plain o) = Plain (put_operand bs o)
put_expr bs (SetOf os) = SetOf (map (put_operand bs) os)
put_expr bs (Union l r) = Union (put_expr bs l) (put_expr bs r)
put_expr bs (Without l r) = Without (put_expr bs l) (put_expr bs r)

abbrev pub put_pred : Values → Pred → Pred
put_pred bs True = True
put_pred bs False = False
put_pred bs (Same l r) = Same (put_operand bs l) (put_operand bs r)
put_pred bs (Less l r) = Less (put_operand bs l) (put_operand bs r)
put_pred bs (Member l r) = Member (put_operand bs l) (put_operand bs r)
put_pred bs (Not p) = Not (put_pred bs p)
put_pred bs (And p q) = And (put_pred bs p) (put_pred bs q)
put_pred bs (Or p q) = Or (put_pred bs p) (put_pred bs q)

abbrev pub put_updates : Values → List Update → List Update
put_updates bs us = map (λ u. (u.0, put_expr bs u.1)) us

-- The values without those of the variables that an input binds anew.
abbrev pub outside : List Name → Values → Values
outside xs bs = filter (λ b. not (lists xs b.0)) bs

-- Inside an input its own variables are bound anew: what is put stops there.
abbrev pub put : Values → Process → Process
put bs Nil = Nil
put bs (Output es p us P) = Output (map (put_expr bs) es) (put_pred bs p) (put_updates bs us) (put bs P)
put bs (Input p xs us P) = Input (put_pred (outside xs bs) p) xs (put_updates (outside xs bs) us) (put (outside xs bs) P)
put bs (When g P) = When (put_pred bs g) (put bs P)
put bs (Choice P Q) = Choice (put bs P) (put bs Q)
put bs (Par P Q) = Par (put bs P) (put bs Q)
put bs (Call c) = Call c
