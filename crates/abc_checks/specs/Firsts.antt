-- The place of the first of a name in a list of names. The facts are not stated by it, but the code is.
use Rattle.std.specs.Prelude.{ℕ, suc, List, [], ◌∷◌, if◌then◌else◌}
use Rattle.abc_pred.specs.declared.names.Name.{Name}
use Rattle.abc_pred.specs.Maps.{same_name}

-- the number of all names where it isn't one of them
abbrev pub first_place : List Name → Name → ℕ
first_place [] c = 0
first_place (x ∷ xs) c = if same_name x c then 0 else suc (first_place xs c)
