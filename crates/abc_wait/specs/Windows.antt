-- A window of numbers: a place for each number from the first on, with its item or none.
use Rattle.std.specs.Prelude.{◌≡◌, ℕ, ◌+◌, ◌-◌, ◌^◌, ◌≤◌, List, [], ◌∷◌, ◌++◌, length, replicate, Option, Some, None}

-- the items of the places from number n on, each beside its number
abbrev pub items_from : {T : Type 0} → ℕ → List (Option T) → List (ℕ × T)
items_from n [] = []
items_from n (None ∷ places) = items_from (n + 1) places
items_from n (Some x ∷ places) = (n, x) ∷ items_from (n + 1) places

-- x is the first item from number n on; behind its place the number is m, and the places are the rest
abbrev pub IsFirst : {T : Type 0} → ℕ → List (Option T) → ℕ → List (Option T) → T → Type 0
IsFirst n places m rest x = items_from n places ≡ (m - 1, x) ∷ items_from m rest

-- the places with empty ones behind them, up to a wanted length
abbrev pub IsWidened : {T : Type 0} → ℕ → List (Option T) → List (Option T) → Type 0
IsWidened wanted places wider = wider ≡ places ++ replicate (wanted - length places) None

-- the places are of numbers of 32 bits, and their items are counted
pub record IsWindow {T : Type 0} (first : ℕ) (places : List (Option T)) (stored : ℕ) : Type 0 where
  pub bounded : first + length places ≤ 2 ^ 32
  pub counted : stored ≡ length (items_from first places)
