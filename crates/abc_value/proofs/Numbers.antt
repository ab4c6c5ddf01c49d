-- The numbers at the limits of values.
use Rattle.std.proofs.Common.{◌≡◌, ℕ, zero, suc, ◌+◌, true, pos, refl, arith}
use Rattle.std.specs.declared.cmp.Ordering.TheVariants.{Less}
use Rattle.std.specs.Prelude.{int_lt}
use Rattle.std.proofs.lemmas.Bool.{lt-ltb}
use Rattle.std.specs.Ordering.{int_cmp}
use Rattle.abc_value.specs.Sets.{Rises}
use Rattle.abc_value.specs.Limits.{numbers_from}

-- a number is below the next
below_next : (n : ℕ) → int_cmp (pos n) (pos (n + 1)) ≡ Less
below_next n = rw below refl
  where
    below : int_lt (pos n) (pos (n + 1)) ≡ true
    below = lt-ltb n (n + 1) (omega arith)

-- numbers that are counted stand in order
pub numbers_rise : (count n : ℕ) → Rises (numbers_from count n)
numbers_rise zero n = tt
numbers_rise (suc zero) n = tt
numbers_rise (suc (suc count)) n = (below_next n, numbers_rise (suc count) (n + 1))
