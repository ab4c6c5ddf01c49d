-- The bodies of definitions, as they are found in a program.
use Rattle.std.specs.Prelude.{◌≡◌, ◌⊎◌, ℕ, ◌<◌, List, Option, Some, None, nat_eq}
use Rattle.std.specs.Borrow.{Bor}
use Rattle.std.specs.List.{position_from}
use Rattle.std.specs.HashMap.{HashMap, get}
use Rattle.abc_pred.specs.declared.names.Name.{Name}
use Rattle.abc_term.specs.declared.terms.Definition.{Definition}
use Rattle.abc_term.specs.declared.terms.Process.{Process}
use Rattle.abc_term.specs.Standing.{process_of}
use Rattle.abc_term.specs.Processes as term

-- The place of the first definition with the name of this number, from a place on.
abbrev pub place_from : ℕ → List Definition → ℕ → Option ℕ
place_from i ds n = position_from (λ d. nat_eq n d.name.0) i ds

-- The map has the place of the first definition of each name that has one.
abbrev pub FindsFirst : {S : Type 0} → HashMap ℕ ℕ S → List Definition → Type 0
FindsFirst m ds = (n : ℕ) → get nat_eq m n ≡ place_from 0 ds n

-- What a call stands for, 0 where there is no definition.
abbrev pub body_in : Option (Bor Process) → term.Process
body_in None = term.Nil
body_in (Some b) = process_of b.now

-- A call is unfolded only where some depth is left.
abbrev pub IsUnfolded : ℕ → term.Definitions → Name → Option (Bor Process) → Type 0
IsUnfolded depth defs c None = (depth ≡ 0) ⊎ (term.body_of defs c ≡ term.Nil)
IsUnfolded depth defs c (Some b) = (0 < depth) × (process_of b.now ≡ term.body_of defs c)
