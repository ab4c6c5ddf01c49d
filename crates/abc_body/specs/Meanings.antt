-- What a body may say and how it may hear.
use Rattle.std.specs.Prelude.{ℕ, Option}

-- The meaning of a body, for states B and labels L. `sound` tells which states there are. A
-- speaking leads from a state by a place and a label to a state; a hearing by a label, and by a
-- place or none. `placed` tells which place a turn picks, for a speaking where there is no label,
-- and else for the hearing of that label.
pub record Meaning (B L : Type 0) : Type 1 where
  pub sound : B → Type 0
  pub speaks : B → ℕ → L → B → Type 0
  pub hears : B → L → Option ℕ → B → Type 0
  pub placed : B → Option L → ℕ → Option ℕ → Type 0

-- Some speaking exists.
abbrev pub CanSpeak : {B L : Type 0} → Meaning B L → B → Type 0
CanSpeak {B} {L} m b = (place : ℕ) × (label : L) × (b' : B) × m.speaks b place label b'

-- Speaking leads from sound states to sound states.
abbrev pub SpeaksSoundly : {B L : Type 0} → Meaning B L → Type 0
SpeaksSoundly {B} {L} m =
    (b b' : B) (place : ℕ) (label : L) → m.sound b → m.speaks b place label b' → m.sound b'

-- Hearing leads from sound states to sound states.
abbrev pub HearsSoundly : {B L : Type 0} → Meaning B L → Type 0
HearsSoundly {B} {L} m =
    (b b' : B) (label : L) (place : Option ℕ) → m.sound b → m.hears b label place b' → m.sound b'

-- In a sound state every label is heard in some way.
abbrev pub HearsAll : {B L : Type 0} → Meaning B L → Type 0
HearsAll {B} {L} m =
    (b : B) (label : L) → m.sound b → (place : Option ℕ) × (b' : B) × m.hears b label place b'
