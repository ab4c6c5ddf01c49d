-- What contracts see of a wait list: a finite map from numbers to items, and which numbers are past.
use Rattle.std.specs.Prelude.{ℕ, ◌+◌, ◌≤◌, ◌==◌, List, [], ◌∷◌, length, Option, Some, None, if◌then◌else◌}
use Rattle.std.specs.Coded.{Coded, code_by, coded×, coded_ℕ, coded_list}
use Rattle.std.specs.Prelude.{refl}

-- the numbers below the first are past; each item stands beside its number
pub record Waits (T : Type 0) : Type 0 where
  pub first : ℕ
  pub items : List (ℕ × T)

-- a wait list is stored as the pair of its fields
abbrev pub waits_code : {T : Type 0} → Coded T → Coded (Waits T)
waits_code {T} code =
    code_by (ℕ × List (ℕ × T)) (coded× coded_ℕ (coded_list (coded× coded_ℕ code)))
    (λ w. (w.first, w.items)) (λ p. record { first = p.0; items = p.1 }) (λ _. refl)

-- the item beside a number in a list, if there is one
abbrev pub item_beside : {T : Type 0} → List (ℕ × T) → ℕ → Option T
item_beside [] n = None
item_beside (e ∷ es) n = if e.0 == n then Some e.1 else item_beside es n

-- the item that waits under a number, if there is one
abbrev pub item_at : {T : Type 0} → Waits T → ℕ → Option T
item_at w n = item_beside w.items n

-- how many items wait
abbrev pub count_of : {T : Type 0} → Waits T → ℕ
count_of w = length w.items

-- the numbers of a list rise, from a number on
abbrev pub RisesFrom : {T : Type 0} → ℕ → List (ℕ × T) → Type 0
RisesFrom n [] = Unit {0}
RisesFrom n (e ∷ es) = (n ≤ e.0) × RisesFrom (e.0 + 1) es

-- the items of a wait list stand in rising order of their numbers, and none of them is past
abbrev pub IsInOrder : {T : Type 0} → Waits T → Type 0
IsInOrder w = RisesFrom w.first w.items
