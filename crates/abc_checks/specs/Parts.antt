-- What stands in a process: names that stand twice, `|`, and the places of the definitions that it calls.
use Rattle.std.specs.Prelude.{ℕ, suc, ◌||◌, Bool, true, false, List, [], ◌∷◌, if◌then◌else◌}
use Rattle.abc_pred.specs.declared.names.Name.{Name}
use Rattle.abc_pred.specs.Maps.{lists, same_name}
use Rattle.abc_term.specs.Processes.{Process, Nil, Output, Input, When, Choice, Par, Call, Definitions}

-- A name stands twice in the list.
abbrev pub repeats : List Name → Bool
repeats [] = false
repeats (x ∷ xs) = lists xs x || repeats xs

-- An input of the process lists a variable twice.
abbrev pub repeats_variable : Process → Bool
repeats_variable Nil = false
repeats_variable (Output es p us P) = repeats_variable P
repeats_variable (Input p xs us P) = repeats xs || repeats_variable P
repeats_variable (When g P) = repeats_variable P
repeats_variable (Choice P Q) = repeats_variable P || repeats_variable Q
repeats_variable (Par P Q) = repeats_variable P || repeats_variable Q
repeats_variable (Call c) = false

-- The process holds `|` anywhere.
abbrev pub holds_par : Process → Bool
holds_par Nil = false
holds_par (Output es p us P) = holds_par P
holds_par (Input p xs us P) = holds_par P
holds_par (When g P) = holds_par P
holds_par (Choice P Q) = holds_par P || holds_par Q
holds_par (Par P Q) = true
holds_par (Call c) = false

-- The number of the first definition of a name; that of all definitions where none has it.
abbrev pub place_of : Definitions → Name → ℕ
place_of [] c = 0
place_of (d ∷ defs) c = if same_name d.0 c then 0 else suc (place_of defs c)
