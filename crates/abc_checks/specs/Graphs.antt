-- The calls of definitions as arrows between their numbers, and a search along them. The facts of the checks are not stated by these, but the code is.
use Rattle.std.specs.Prelude.{◌≡◌, ◌⊎◌, ◌<◌, ◌≤◌, ℕ, ◌++◌, Bool, true, false, IsTrue, IsSomeAnd, List, [], ◌∷◌, length, map, slice_get, slice_index_or, slice_set, if◌then◌else◌}
use Rattle.abc_pred.specs.declared.names.Name.{Name}
use Rattle.abc_term.specs.Processes.{Process}
use Rattle.abc_term.specs.declared.terms.Definition.{Definition}
use Rattle.abc_term.specs.declared.terms.Program.{Program}
use Rattle.abc_term.specs.Standing.{process_of, definitions_of}
use Rattle.abc_term.specs.Calls.{calls, unguarded_calls, Reaches}
use Rattle.abc_checks.specs.Parts.{place_of, holds_par}
use Rattle.abc_checks.specs.Sites.{AtSite}
use Rattle.abc_checks.specs.declared.causes.Site.{Site}
use Rattle.abc_checks.specs.declared.calls.Calls.{Calls}
use Rattle.abc_checks.specs.declared.calls.Calls.TheVariants.{All, Unguarded}
use Rattle.abc_checks.specs.declared.search.Search as held

-- The calls that count: whether those behind an action do.
abbrev pub counts_behind : Calls → Bool
counts_behind All = true
counts_behind Unguarded = false

-- For each definition the places of the names that it calls; a name without definition has a place past the last.
abbrev pub graph_of : (Process → List Name) → List Definition → List (List ℕ)
graph_of called_by ds = map (λ d. map (place_of (definitions_of ds)) (called_by (process_of d.body))) ds

abbrev pub Member : ℕ → List ℕ → Type 0
Member j [] = ⊥
Member j (x ∷ xs) = (x ≡ j) ⊎ Member j xs

-- Node i has an arrow to node j.
abbrev pub Arrow : List (List ℕ) → ℕ → ℕ → Type 0
Arrow g i j = (j < length g) × Member j (slice_index_or g i [])

-- A way of one or more arrows.
pub data Path (g : List (List ℕ)) : ℕ → ℕ → Type 0 where
  arrow : {i j : ℕ} → Arrow g i j → Path g i j
  arrows : {i j k : ℕ} → Arrow g i j → Path g j k → Path g i k

-- The level of a node; 0 where the list has none for it.
abbrev pub level_of : List ℕ → ℕ → ℕ
level_of levels i = slice_index_or levels i 0

-- No arrow leads to a higher level.
abbrev pub NoneRises : List (List ℕ) → List ℕ → Type 0
NoneRises g levels = (i j : ℕ) → Arrow g i j → level_of levels j ≤ level_of levels i

-- The definition reaches itself by unguarded calls; or, where all calls count, it reaches itself and its body holds `|`.
abbrev pub IsBadCycle : Calls → List Definition → Definition → Type 0
IsBadCycle Unguarded ds d = Reaches unguarded_calls (definitions_of ds) d.name d.name
IsBadCycle All ds d = IsTrue (holds_par (process_of d.body)) × Reaches calls (definitions_of ds) d.name d.name

-- The definition of a number does.
abbrev pub CyclesAt : Calls → List Definition → ℕ → Type 0
CyclesAt counted ds i = IsSomeAnd (slice_get ds i) (IsBadCycle counted ds)

abbrev pub CycleSite : Calls → Program → Site → Type 0
CycleSite counted p = AtSite (length p.definitions) (length p.components) (CyclesAt counted p.definitions) (λ i. ⊥)

-- A search: which nodes are marked, and the marked ones whose arrows were not followed yet.
pub record Search : Type 0 where
  pub marked : List Bool
  pub waiting : List ℕ

abbrev pub search_of : held.Search → Search
search_of s = record { marked = s.marked.items; waiting = s.waiting.items }

-- A node without mark is marked, and waits.
abbrev pub mark : ℕ → Search → Search
mark j s =
    if slice_index_or s.marked j true then s
    else record { marked = slice_set s.marked j true; waiting = s.waiting ++ j ∷ [] }

abbrev pub mark_all : List ℕ → Search → Search
mark_all [] s = s
mark_all (x ∷ xs) s = mark_all xs (mark x s)
