-- Laws of systems of bodies, and worked runs of tallies.
use Rattle.std.specs.Prelude.{◌≡◌, ℕ, List, [], ◌∷◌, ◌++◌, All, Some, None, slice_get}
use Rattle.abc_packet.specs.declared.choice.Choice.{Choice}
use Rattle.abc_body.specs.Meanings.{Meaning}
use Rattle.abc_body.specs.Multicasts.{Multicasts, AllRest, Step, Runs}
use Rattle.abc_body.specs.Tallies.{tally}

-- To rest is to stay, as long as bodies have no moves of their own.
abbrev pub RestingIsStaying : Type 0 → Type 0
RestingIsStaying B = (S S' : List B) → (AllRest S S' → S' ≡ S) × (S' ≡ S → AllRest S S')

-- A run and then another are one.
abbrev pub RunsFollow : {B L : Type 0} → Meaning B L → Type 0
RunsFollow {B} m =
    (S T U : List B) (cs ds : List Choice) →
    Runs m S cs T → Runs m T ds U → Runs m S (cs ++ ds) U

-- All bodies of a system are sound.
abbrev pub IsSound : {B L : Type 0} → Meaning B L → List B → Type 0
IsSound m S = All m.sound S

-- Runs lead from sound systems to sound systems.
abbrev pub RunsStaySound : {B L : Type 0} → Meaning B L → Type 0
RunsStaySound {B} m =
    (S S' : List B) (cs : List Choice) → IsSound m S → Runs m S cs S' → IsSound m S'

-- No speaking waits for a hearer: where a body of a sound system speaks, there is a multicast in
-- which it does, and each other body hears in some way.
abbrev pub SpeakingsAreSteps : {B L : Type 0} → Meaning B L → Type 0
SpeakingsAreSteps {B} {L} m =
    (S : List B) (sender : ℕ) (b b' : B) (place : ℕ) (l : L) →
    IsSound m S → slice_get S sender ≡ Some b → m.speaks b place l b' →
    (heard : List (ℕ × ℕ)) × (S' : List B) × Multicasts m S sender place heard l S'

-- Body 1 of three speaks at place 0, and both others hear it at place 1.
abbrev pub one_tells_two : Choice
one_tells_two = record { sender = 1; place = Some 0; heard = (0, 1) ∷ (2, 1) ∷ [] }

-- Body 0 speaks at place 1, and body 1 hears it at place 0; body 2 is full.
abbrev pub nought_tells_one : Choice
nought_tells_one = record { sender = 0; place = Some 1; heard = (1, 0) ∷ [] }

-- Body 2 has nothing to say.
abbrev pub two_passes : Choice
two_passes = record { sender = 2; place = None; heard = [] }

-- A body speaks at place 0, and these hear it.
abbrev pub tells : ℕ → List (ℕ × ℕ) → Choice
tells sender heard = record { sender = sender; place = Some 0; heard = heard }

-- Body 2 has nothing to say, and yet body 0 hears it.
abbrev pub two_passes_heard : Choice
two_passes_heard = record { sender = 2; place = None; heard = (0, 0) ∷ [] }

-- From three tallies there is no such step.
abbrev pub IsNoStep : Choice → Type 0
IsNoStep c = (S : List ℕ) → ¬ (Step tally (0 ∷ 4 ∷ 8 ∷ []) c S)

pub record WorkedRuns : Type 0 where
  -- each tally counts each label until it is full
  pub run :
      Runs tally (0 ∷ 4 ∷ 8 ∷ []) (one_tells_two ∷ two_passes ∷ nought_tells_one ∷ [])
      (2 ∷ 6 ∷ 9 ∷ [])
  -- none that could hear is left out
  pub left_out : IsNoStep nought_tells_one
  -- none hears itself
  pub itself : IsNoStep (tells 1 ((0, 0) ∷ (1, 0) ∷ (2, 0) ∷ []))
  -- the hearers rise, and each is a body of the system
  pub falling : IsNoStep (tells 1 ((2, 0) ∷ (0, 0) ∷ []))
  pub nobody : IsNoStep (tells 1 ((0, 0) ∷ (2, 0) ∷ (3, 0) ∷ []))
  -- the sender is one, and nobody hears an empty step
  pub no_sender : IsNoStep (tells 3 ((0, 0) ∷ (1, 0) ∷ (2, 0) ∷ []))
  pub heard_nothing : IsNoStep two_passes_heard
