-- Who hears a message, component by component from the left. The first component of a list has the number i, and `heard` has
-- the hearers from there on.
use Rattle.std.specs.Prelude.{◌≡◌, ◌⊎◌, ℕ, ◌+◌, ◌%◌, ◌<◌, ◌==◌, List, [], ◌∷◌, Some, None, MatchBool, if◌then◌else◌}
use Rattle.abc_term.specs.Processes.{Definitions, System}
use Rattle.abc_term.specs.Speaking.{Label}
use Rattle.abc_term.specs.Hearing.{Hears, ins}

module _ (defs : Definitions) (sender : ℕ) (l : Label) where
  -- Each component but the sender is listed with the place of an input of it that takes the message, or it has no such input.
  abbrev pub CanHear : ℕ → System → List (ℕ × ℕ) → Type 0
  CanHear i [] heard = heard ≡ []
  CanHear i (C ∷ S) heard =
      MatchBool (i == sender) (CanHear (i + 1) S heard)
      (((place : ℕ) × (more : List (ℕ × ℕ)) × (heard ≡ (i, place) ∷ more) × (place < ins defs C l) × CanHear (i + 1) S more)
      ⊎ ((ins defs C l ≡ 0) × CanHear (i + 1) S heard))

  -- Each of them hears so, and the sender stays.
  abbrev pub AllHear : ℕ → System → List (ℕ × ℕ) → System → Type 0
  AllHear i [] heard [] = heard ≡ []
  AllHear i (C ∷ S) heard (D ∷ T) =
      MatchBool (i == sender) ((D ≡ C) × AllHear (i + 1) S heard T)
      (((place : ℕ) × (more : List (ℕ × ℕ)) × (heard ≡ (i, place) ∷ more) × Hears defs C l (Some place) D × AllHear (i + 1) S more T)
      ⊎ (Hears defs C l None D × AllHear (i + 1) S heard T))
  AllHear i [] heard (D ∷ T) = ⊥
  AllHear i (C ∷ S) heard [] = ⊥

  -- The hearers by the rule of places at a turn.
  abbrev pub hearers_from : ℕ → ℕ → System → List (ℕ × ℕ)
  hearers_from turn i [] = []
  hearers_from turn i (C ∷ S) =
      let rest = hearers_from turn (i + 1) S in
      if i == sender then rest else (if ins defs C l == 0 then rest else (i, turn % ins defs C l) ∷ rest)
