-- The components of a system while a step is made: what each is, and what it becomes.
use Rattle.std.specs.Prelude.{◌≡◌, ◌≢◌, ◌⊎◌, ℕ, ◌<◌, ◌==◌, List, ◌∷◌, All, Option, Some, None, MatchBool}
use Rattle.abc_term.specs.declared.terms.Definition.{Definition}
use Rattle.abc_term.specs.Processes.{Definitions, Component}
use Rattle.abc_term.specs.Speaking.{Label}
use Rattle.abc_term.specs.Hearing.{Hears, ins}
use Rattle.abc_moves.specs.declared.live.Live.{Live}
use Rattle.abc_moves.specs.declared.made.Move.{Move}
use Rattle.abc_moves.specs.Lives.{component_in, program_in}
use Rattle.abc_moves.specs.Moves.{moved, IsMoveOf}
use Rattle.abc_system.specs.declared.member.Member.{Member}

-- What it is now,
abbrev pub now_in : Member → Component
now_in m = component_in m.live

abbrev pub moved_by : Live → Option Move → Component
moved_by l None = component_in l
moved_by l (Some made) = moved l made

-- and once its move is put in place.
abbrev pub then_in : Member → Component
then_in m = moved_by m.live m.next

abbrev pub live_of : Member → Live
live_of m = m.live

-- The definitions under which it runs.
abbrev pub program_of : Member → List Definition
program_of m = program_in m.live

abbrev pub RunUnder : List Definition → List Member → Type 0
RunUnder ds ms = All (λ m. program_of m ≡ ds) ms

abbrev pub IsReadyFor : Live → Option Move → Type 0
IsReadyFor l None = Unit {0}
IsReadyFor l (Some made) = IsMoveOf l made

-- The move that stands ready is one of its own.
abbrev pub IsReady : Member → Type 0
IsReady m = IsReadyFor m.live m.next

-- No component of this number is listed first.
abbrev pub IsNotListed : ℕ → List (ℕ × ℕ) → Type 0
IsNotListed i heard = (place : ℕ) (rest : List (ℕ × ℕ)) → heard ≢ (i, place) ∷ rest

module _ (defs : Definitions) (sender : ℕ) (l : Label) (i : ℕ) where
  -- A component of the number i can hear the message, where those listed from it on are `heard`. The sender isn't asked.
  abbrev pub CanTakePart : Component → List (ℕ × ℕ) → Type 0
  CanTakePart C heard =
      MatchBool (i == sender) (Unit {0})
      (((place : ℕ) (rest : List (ℕ × ℕ)) → heard ≡ (i, place) ∷ rest → place < ins defs C l)
      × (IsNotListed i heard → ins defs C l ≡ 0))

  -- It hears so and becomes D, and those listed behind it are `rest`. The sender stays.
  abbrev pub TakesPart : Component → List (ℕ × ℕ) → List (ℕ × ℕ) → Component → Type 0
  TakesPart C heard rest D =
      MatchBool (i == sender) ((D ≡ C) × (rest ≡ heard))
      (((place : ℕ) × (heard ≡ (i, place) ∷ rest) × Hears defs C l (Some place) D)
      ⊎ (IsNotListed i heard × (rest ≡ heard) × Hears defs C l None D))
