-- Laws of the numbers that a plain counter draws.
use Rattle.std.specs.Prelude.{ℕ, ◌<◌, ◌≤◌, ◌↔◌, Contains}
use Rattle.std.specs.List.Sorted.{IsStrictlyIncreasing}
use Rattle.abc_number.specs.Draws.{first_numbers}

-- the first numbers rise
abbrev pub FirstNumbersRise : Type 0
FirstNumbersRise = (count : ℕ) → IsStrictlyIncreasing (first_numbers count)

-- they are all from 1 to their count
abbrev pub FirstNumbersAreAll : Type 0
FirstNumbersAreAll = (count n : ℕ) → Contains (first_numbers count) n ↔ ((0 < n) × (n ≤ count))
