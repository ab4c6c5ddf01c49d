-- What a draw answers, and the numbers that are drawn.
use Rattle.std.specs.Prelude.{◌≡◌, ℕ, ◌<◌, ◌≤◌, List, [], ◌∷◌, ◌++◌, Bool, true, false}
use Rattle.std.specs.List.{range_with_len}
use Rattle.abc_value.specs.declared.grant.Grant.{Grant}
use Rattle.abc_value.specs.declared.grant.Grant.TheVariants.{Number, Closed}

-- a draw gives a number from 1 to the limit, which is appended, where it hadn't closed,
-- or it answers Closed, leaves the drawn numbers, and has closed
abbrev pub Granted : ℕ → List ℕ → Bool → Grant → List ℕ → Bool → Type 0
Granted limit drawn closed (Number n) drawn' closed' =
    (0 < n) × (n ≤ limit) × (drawn' ≡ drawn ++ n ∷ []) × (closed ≡ false) × (closed' ≡ false)
Granted limit drawn closed Closed drawn' closed' = (drawn' ≡ drawn) × (closed' ≡ true)

-- the numbers from 1 to a count
abbrev pub first_numbers : ℕ → List ℕ
first_numbers count = range_with_len 1 count
