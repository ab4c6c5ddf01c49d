-- Where an item stands, or would stand, in a list whose items rise by a number of theirs.
use Rattle.std.specs.Prelude.{ℕ, zero, suc, ◌≡◌, ◌<◌, List, [], ◌∷◌}

module _ {X : Type 0} (key : X → ℕ) (n : ℕ) where
  -- the item at a place has the number, and all before it have lower ones
  abbrev pub StandsAt : List X → ℕ → Type 0
  StandsAt [] i = ⊥
  StandsAt (x ∷ xs) zero = key x ≡ n
  StandsAt (x ∷ xs) (suc i) = (key x < n) × StandsAt xs i

  -- all before a place have lower numbers, and the one there, if any, has a higher one
  abbrev pub FitsAt : List X → ℕ → Type 0
  FitsAt [] zero = Unit {0}
  FitsAt [] (suc i) = ⊥
  FitsAt (x ∷ xs) zero = n < key x
  FitsAt (x ∷ xs) (suc i) = (key x < n) × FitsAt xs i
