-- A step of a system: one component speaks and every other hears, all at once. A run is a list of steps.
use Rattle.std.specs.Prelude.{◌≡◌, ◌≢◌, ℕ, ◌+◌, ◌<◌, ◌≤◌, ◌==◌, List, [], ◌∷◌, length, All, Option, Some, None, MatchBool, if◌then◌else◌}
use Rattle.abc_term.specs.Processes.{Definitions, System}
use Rattle.abc_term.specs.Speaking.{Label, Speaks, outs}
use Rattle.abc_term.specs.Hearing.{Hears}

-- Which step is made: who speaks, at which place, and who hears it at which places. One without place is an empty step.
pub record Choice : Type 0 where
  pub sender : ℕ
  pub place : Option ℕ
  pub heard : List (ℕ × ℕ)

-- The place at which component i hears, or none where it isn't listed.
abbrev pub place_in : List (ℕ × ℕ) → ℕ → Option ℕ
place_in [] i = None
place_in (h ∷ heard) i = if h.0 == i then Some h.1 else place_in heard i

-- The hearers are components in rising order, from `least` on and below `count`, and the sender is none of them.
abbrev pub AreHearers : ℕ → ℕ → ℕ → List (ℕ × ℕ) → Type 0
AreHearers sender count least [] = Unit {0}
AreHearers sender count least (h ∷ heard) = (least ≤ h.0) × (h.0 < count) × (h.0 ≢ sender) × AreHearers sender count (h.0 + 1) heard

-- All at once: the sender speaks at its place with the label, and each other component hears the label, at its place in
-- `heard` or by discard. The first component of the lists has the number i.
module _ (defs : Definitions) (sender place : ℕ) (heard : List (ℕ × ℕ)) (l : Label) where
  abbrev pub EachMoves : ℕ → System → System → Type 0
  EachMoves i [] [] = Unit {0}
  EachMoves i (C ∷ S) (C' ∷ S') =
      MatchBool (i == sender) (Speaks defs C place l C') (Hears defs C l (place_in heard i) C') × EachMoves (i + 1) S S'
  EachMoves i [] (C' ∷ S') = ⊥
  EachMoves i (C ∷ S) [] = ⊥

-- The system S goes to S' by one multicast with a label.
pub record Multicasts (defs : Definitions) (S : System) (sender place : ℕ) (heard : List (ℕ × ℕ)) (l : Label) (S' : System) :
    Type 0 where
  pub exists : sender < length S
  pub hearers : AreHearers sender (length S) 0 heard
  pub moves : EachMoves defs sender place heard l 0 S S'

-- A step with a place is a multicast with some label. An empty step, which has neither place nor hearers, leaves the system.
abbrev pub StepAt : Definitions → System → ℕ → Option ℕ → List (ℕ × ℕ) → System → Type 0
StepAt defs S sender (Some place) heard S' = (l : Label) × Multicasts defs S sender place heard l S'
StepAt defs S sender None heard S' = (sender < length S) × (heard ≡ []) × (S' ≡ S)

abbrev pub Step : Definitions → System → Choice → System → Type 0
Step defs S c S' = StepAt defs S c.sender c.place c.heard S'

-- A run from S to S': each choice is a step from the system before it.
abbrev pub Runs : Definitions → System → List Choice → System → Type 0
Runs defs S [] S' = S' ≡ S
Runs defs S (c ∷ cs) S' = (T : System) × Step defs S c T × Runs defs T cs S'

-- No component can speak.
abbrev pub IsSilent : Definitions → System → Type 0
IsSilent defs S = All (λ C. outs defs C ≡ 0) S
