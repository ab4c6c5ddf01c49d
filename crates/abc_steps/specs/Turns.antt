-- The rule of places, which fixes one run for each program, limit and pick. AbC leaves open which of several enabled moves is
-- made; this rule is no part of it.
use Rattle.std.specs.Prelude.{◌≡◌, ◌⊎◌, ℕ, zero, suc, ◌+◌, ◌%◌, ◌==◌, List, [], ◌∷◌, length, Some, slice_get, if◌then◌else◌}
use Rattle.abc_term.specs.Processes.{Definitions, Component, System}
use Rattle.abc_term.specs.Speaking.{Label, outs}
use Rattle.abc_term.specs.Hearing.{ins}
use Rattle.abc_term.specs.Systems.{Choice, place_in, Multicasts, IsSilent}

-- The numbers of the components that can speak, in order. The first component of the list has the number i.
abbrev pub speakers_from : ℕ → Definitions → System → List ℕ
speakers_from i defs [] = []
speakers_from i defs (C ∷ S) = let rest = speakers_from (i + 1) defs S in if outs defs C == 0 then rest else i ∷ rest

abbrev pub speakers : Definitions → System → List ℕ
speakers defs S = speakers_from 0 defs S

-- A multicast with the label l has the places of a turn.
pub record IsTurn (defs : Definitions) (S : System) (turn : ℕ) (c : Choice) (l : Label) : Type 0 where
  -- Of the components that can speak, the one at the place `turn mod` their number does.
  pub speaker : slice_get (speakers defs S) (turn % length (speakers defs S)) ≡ Some c.sender
  -- It makes its output at the place `turn mod` the number of its outputs.
  pub output : (C : Component) → slice_get S c.sender ≡ Some C → c.place ≡ Some (turn % outs defs C)
  -- Whoever hears takes the message by its input at the place `turn mod` the number of its inputs that take it.
  pub inputs :
      (i : ℕ) (C : Component) (place : ℕ) → slice_get S i ≡ Some C → place_in c.heard i ≡ Some place → place ≡ turn % ins defs C l

-- The step of a choice with a place, its label told.
abbrev pub SaysStep : Definitions → System → Choice → Label → System → Type 0
SaysStep defs S c l T = (place : ℕ) × (c.place ≡ Some place) × Multicasts defs S c.sender place c.heard l T

-- A run by the rule from S to T: at most `limit` choices, the first one at this turn and each at the next. It ends where no
-- component can speak or at the limit.
abbrev pub RunsByTurns : Definitions → ℕ → ℕ → System → List Choice → System → Type 0
RunsByTurns defs limit turn S [] T = (T ≡ S) × ((limit ≡ 0) ⊎ IsSilent defs S)
RunsByTurns defs zero turn S (c ∷ cs) T = ⊥
RunsByTurns defs (suc limit) turn S (c ∷ cs) T =
    (l : Label) × (U : System) × SaysStep defs S c l U × IsTurn defs S turn c l × RunsByTurns defs limit (turn + 1) U cs T
