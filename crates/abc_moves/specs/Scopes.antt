-- Bindings beside a process, as the values that they put for its variables.
use Rattle.std.specs.Prelude.{◌≡◌, false, List, [], ◌∷◌, map}
use Rattle.abc_value.specs.declared.value.Value.{Value}
use Rattle.abc_value.specs.declared.value.Value.TheVariants.{Nothing}
use Rattle.abc_pred.specs.declared.names.Name.{Name}
use Rattle.abc_pred.specs.Maps.{Entries, IsMap, look_up, lists, set_to}
use Rattle.std.specs.List.{zip}
use Rattle.abc_term.specs.Processes.{Process}
use Rattle.abc_term.specs.Substitution.{Values, put, outside}

-- Each of the variables with its value in the map, none where the map lacks it.
abbrev pub values_in : List Name → Entries → Values
values_in names vars = map (λ x. (x, look_up vars x)) names

-- The map has values of no other variables.
abbrev pub HasNoOthers : List Name → Entries → Type 0
HasNoOthers names vars = (x : Name) → lists names x ≡ false → look_up vars x ≡ Nothing

pub record IsScope (names : List Name) (vars : Entries) : Type 0 where
  pub map : IsMap vars
  pub no_others : HasNoOthers names vars

-- The map after the variables get these values, the first of a variable's values last.
abbrev pub bind_all : List Name → List Value → Entries → Entries
bind_all [] vs vars = vars
bind_all (x ∷ xs) [] vars = vars
bind_all (x ∷ xs) (v ∷ vs) vars = set_to v x (bind_all xs vs vars)

-- Inside an input that binds xs, what is put is what was put outside, but for xs, and the message's values for these.
abbrev pub PutsInside : List Name → List Value → Values → Values → Type 0
PutsInside xs vs outer inner = (P : Process) → put inner P ≡ put (zip xs vs) (put (outside xs outer) P)
