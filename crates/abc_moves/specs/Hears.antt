-- What an input reads while its message is tested: the values of the message for its own variables, and else what is bound outside.
use Rattle.std.specs.Prelude.{◌≡◌, true, false, List, ◌++◌, Option, Some, None}
use Rattle.std.specs.List.{zip}
use Rattle.abc_value.specs.declared.value.Value.{Value}
use Rattle.abc_pred.specs.declared.names.Name.{Name}
use Rattle.abc_value.specs.declared.value.View.{View}
use Rattle.abc_value.specs.Values.{seen}
use Rattle.abc_pred.specs.Maps.{look_up, lists}
use Rattle.abc_term.specs.Substitution.{Values, outside}

abbrev pub inside : List Name → List Value → Values → Values
inside xs vs bs = outside xs bs ++ zip xs vs

-- The message has this value for the variable, where it is one of the input's.
abbrev pub IsItsValue : List Name → List Value → Name → Option View → Type 0
IsItsValue xs vs x None = lists xs x ≡ false
IsItsValue xs vs x (Some v) = (lists xs x ≡ true) × (seen v ≡ look_up (zip xs vs) x)
