-- A counter as a body: it says its count, and whatever it says or hears raises it, until it is
-- full.
use Rattle.std.specs.Prelude.{◌≡◌, ℕ, ◌+◌, ◌%◌, ◌<◌, ◌≤◌, nat_lt}
use Rattle.std.specs.Prelude.{Option, Some, None, if◌then◌else◌}
use Rattle.abc_body.specs.Meanings.{Meaning}
use Rattle.abc_body.specs.declared.tally.TheConstants.{FULL}

-- It says its count, at one of two places.
abbrev pub TallySpeaks : ℕ → ℕ → ℕ → ℕ → Type 0
TallySpeaks n place label n' = (n < FULL) × (place < 2) × (label ≡ n) × (n' ≡ n + 1)

-- It hears any label, at one of two places, and discards it where it is full.
abbrev pub TallyHears : ℕ → ℕ → Option ℕ → ℕ → Type 0
TallyHears n label (Some place) n' = (n < FULL) × (place < 2) × (n' ≡ n + 1)
TallyHears n label None n' = (FULL ≤ n) × (n' ≡ n)

-- The turn picks one of the two places, where there is one.
abbrev pub place_of : ℕ → ℕ → Option ℕ
place_of n turn = if nat_lt n FULL then Some (turn % 2) else None

abbrev pub tally : Meaning ℕ ℕ
tally = record {
  sound = λ n. n ≤ FULL;
  speaks = TallySpeaks;
  hears = TallyHears;
  placed = λ n label turn place. place ≡ place_of n turn;
}
