-- Worked examples of the definitions, each computed from them.
use Rattle.std.specs.Prelude.{◌≡◌, ℤ, pos, true, false, List, [], ◌∷◌}
use Rattle.abc_value.specs.declared.scalar.Scalar.{Scalar as ScalarValue}
use Rattle.abc_value.specs.declared.scalar.Scalar.TheVariants.{Number}
use Rattle.abc_value.specs.declared.value.Value.{Value}
use Rattle.abc_value.specs.declared.value.Value.TheVariants.{Scalar, Set}
use Rattle.abc_pred.specs.declared.names.Name.{Name}
use Rattle.abc_pred.specs.Terms.{Operand, Literal, Attr, This, Var, Add, Free, Plain, SetOf, Union, Expr, Pred, Same}
use Rattle.abc_pred.specs.Maps.{Entries, set_to, shown}
use Rattle.abc_pred.specs.Meaning.{expr_val, sat, close, IsOwn}

abbrev pub number : ℤ → Value
number n = Scalar (Number n)

-- two attributes and a variable
abbrev pub g : Name
g = record { 0 = 3 }

abbrev pub used : Name
used = record { 0 = 5 }

abbrev pub colour : Name
colour = record { 0 = 8 }

-- the map in which g alone has a value
abbrev pub g_is : ℤ → Entries
g_is n = (g, number n) ∷ []

-- this.g = g, closed by a sender whose g is 2, is 2 = g
abbrev pub open_pred : Pred
open_pred = Same (This g) (Attr g)

abbrev pub ClosedForm : Type 0
ClosedForm = close open_pred (g_is (pos 2)) [] ≡ Same (Literal (number (pos 2))) (Attr g)

-- which holds of a receiver that shows its g, of 2, and not of one whose g is 3 or hidden
abbrev pub HoldsWhereShown : Type 0
HoldsWhereShown = sat (close open_pred (g_is (pos 2)) []) [] (shown (g_is (pos 2)) (g ∷ [])) [] ≡ true

abbrev pub FailsAtAnotherValue : Type 0
FailsAtAnotherValue = sat (close open_pred (g_is (pos 2)) []) [] (shown (g_is (pos 3)) (g ∷ [])) [] ≡ false

abbrev pub FailsWhereHidden : Type 0
FailsWhereHidden = sat (close open_pred (g_is (pos 2)) []) [] (shown (g_is (pos 2)) []) [] ≡ false

-- [used := union(used, set($colour))] where used is {1} and $colour is 0 gives {0, 1}, and then free(used) is 2
abbrev pub used_is : List ScalarValue → Entries
used_is members = (used, Set members) ∷ []

abbrev pub UpdateOfASet : Type 0
UpdateOfASet =
    set_to (expr_val (Union (Plain (Attr used)) (SetOf (Var colour ∷ []))) (used_is (Number (pos 1) ∷ [])) ((colour, number (pos 0)) ∷ [])) used (used_is (Number (pos 1) ∷ []))
    ≡ used_is (Number (pos 0) ∷ Number (pos 1) ∷ [])

abbrev pub FreeOfASet : Type 0
FreeOfASet = expr_val (Plain (Free (This used))) (used_is (Number (pos 0) ∷ Number (pos 1) ∷ [])) [] ≡ number (pos 2)

-- [n := n + 1] at the greatest number gives none, which removes the name
abbrev pub Overflow : Type 0
Overflow = set_to (expr_val (Plain (Add (Attr g) (Literal (number (pos 1))))) (g_is (pos 9223372036854775807)) []) g (g_is (pos 9223372036854775807)) ≡ []

-- union(set($colour, this.g), free(this.used)) is an own expression, and so it stays where a variable or an own attribute stands; an attribute of the other anywhere makes it none
abbrev pub with_operand : Operand → Expr
with_operand o = Union (SetOf (Var colour ∷ Add o (This g) ∷ [])) (Plain (Free (This used)))

abbrev pub OwnReadsOwnAndVariables : Type 0
OwnReadsOwnAndVariables = IsOwn (with_operand (Var g)) × IsOwn (with_operand (This g))

abbrev pub OtherIsNotOwn : Type 0
OtherIsNotOwn = ¬ IsOwn (with_operand (Attr g))
