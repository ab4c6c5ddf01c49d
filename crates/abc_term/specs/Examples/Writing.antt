-- How the examples are written.
use Rattle.std.specs.Prelude.{ℕ, List, [], ◌∷◌, Some, pos}
use Rattle.abc_value.specs.declared.value.Value.{Value}
use Rattle.abc_value.specs.declared.value.Value.TheVariants.{Scalar as One}
use Rattle.abc_value.specs.declared.scalar.Scalar.TheVariants.{Number, Text}
use Rattle.abc_pred.specs.declared.names.Name.{Name}
use Rattle.abc_pred.specs.Maps.{Entries}
use Rattle.abc_pred.specs.Terms.{Operand, Literal, Attr, Expr, Plain, Pred, Same}
use Rattle.abc_term.specs.Processes.{Process, Component}
use Rattle.abc_term.specs.Speaking.{Label}
use Rattle.abc_term.specs.Systems.{Choice}

abbrev pub name : ℕ → Name
name n = record { 0 = n }

abbrev pub number : ℕ → Value
number n = One (Number (pos n))

abbrev pub text : List ℕ → Value
text bytes = One (Text bytes)

abbrev pub say : Value → List Expr
say v = Plain (Literal v) ∷ []

abbrev pub is : Name → Value → Pred
is a v = Same (Attr a) (Literal v)

abbrev pub set : Name → Operand → Name × Expr
set a o = (a, Plain o)

abbrev pub component : Entries → List Name → Process → Component
component env interface P = record { env = env; interface = interface; process = P }

abbrev pub label : Entries → Pred → List Value → Label
label shown p values = record { shown = shown; pred = p; values = values }

abbrev pub choice : ℕ → ℕ → List (ℕ × ℕ) → Choice
choice sender place heard = record { sender = sender; place = Some place; heard = heard }
