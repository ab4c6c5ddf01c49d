-- A step of a system of bodies: one speaks and every other hears, all at once. A run is a list of
-- steps.
use Rattle.std.specs.Prelude.{◌≡◌, ◌≢◌, ℕ, ◌+◌, ◌<◌, ◌≤◌, ◌==◌, List, [], ◌∷◌, length}
use Rattle.std.specs.Prelude.{Option, Some, None, MatchBool, if◌then◌else◌}
use Rattle.abc_packet.specs.declared.choice.Choice.{Choice}
use Rattle.abc_body.specs.Meanings.{Meaning}

-- The place at which body i hears, or none where it isn't listed.
abbrev pub place_in : List (ℕ × ℕ) → ℕ → Option ℕ
place_in [] i = None
place_in (h ∷ heard) i = if h.0 == i then Some h.1 else place_in heard i

-- The hearers are bodies in rising order, from `least` on and below `count`, and the sender is none
-- of them.
abbrev pub AreHearers : ℕ → ℕ → ℕ → List (ℕ × ℕ) → Type 0
AreHearers sender count least [] = Unit {0}
AreHearers sender count least (h ∷ heard) =
    (least ≤ h.0) × (h.0 < count) × (h.0 ≢ sender) × AreHearers sender count (h.0 + 1) heard

module _ {B L : Type 0} (m : Meaning B L) where
  -- All at once: the sender speaks at its place with the label, and each other body hears the
  -- label, at its place in `heard` or at none. The first body of the lists has the number i.
  module _ (sender place : ℕ) (heard : List (ℕ × ℕ)) (l : L) where
    abbrev pub EachMoves : ℕ → List B → List B → Type 0
    EachMoves i [] [] = Unit {0}
    EachMoves i (b ∷ S) (b' ∷ S') =
        MatchBool (i == sender) (m.speaks b place l b') (m.hears b l (place_in heard i) b')
        × EachMoves (i + 1) S S'
    EachMoves i [] (b' ∷ S') = ⊥
    EachMoves i (b ∷ S) [] = ⊥

  -- The system S goes to S' by one multicast with a label.
  pub record Multicasts (S : List B) (sender place : ℕ) (heard : List (ℕ × ℕ)) (l : L)
      (S' : List B) : Type 0 where
    pub exists : sender < length S
    pub hearers : AreHearers sender (length S) 0 heard
    pub moves : EachMoves sender place heard l 0 S S'

  -- A step with a place is a multicast with some label. An empty step, which has neither place nor
  -- hearers, leaves the system.
  abbrev pub StepAt : List B → ℕ → Option ℕ → List (ℕ × ℕ) → List B → Type 0
  StepAt S sender (Some place) heard S' = (l : L) × Multicasts S sender place heard l S'
  StepAt S sender None heard S' = (sender < length S) × (heard ≡ []) × (S' ≡ S)

  abbrev pub Step : List B → Choice → List B → Type 0
  Step S c S' = StepAt S c.sender c.place c.heard S'

-- Between two steps a body may have moves of its own, which no other hears, each at its place.
-- There is no such move so far: the places are none, and the body stays.
abbrev pub Rests : {B : Type 0} → B → List ℕ → B → Type 0
Rests b places b' = (places ≡ []) × (b' ≡ b)

-- Each body rests, at some places.
abbrev pub AllRest : {B : Type 0} → List B → List B → Type 0
AllRest [] [] = Unit {0}
AllRest (b ∷ S) (b' ∷ S') = ((places : List ℕ) × Rests b places b') × AllRest S S'
AllRest [] (b' ∷ S') = ⊥
AllRest (b ∷ S) [] = ⊥

-- A run from S to S': each choice is a step from the system before it, and before each step and at
-- the end all rest.
abbrev pub Runs : {B L : Type 0} → Meaning B L → List B → List Choice → List B → Type 0
Runs m S [] S' = AllRest S S'
Runs {B} m S (c ∷ cs) S' =
    (R : List B) × (T : List B) × AllRest S R × Step m R c T × Runs m T cs S'
