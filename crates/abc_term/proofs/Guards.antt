-- What a count of moves tells of a guard, and of two sides of a process.
use Rattle.std.proofs.Common.{◌≡◌, ◌⊎◌, inl, inr, ℕ, zero, suc, ◌+◌, ◌<◌, Bool, true, false, if◌then◌else◌, IsTrue, refl, arith}

pub guarded_below : (b : Bool) (n k : ℕ) → IsTrue b → k < n → k < (if b then n else 0)
guarded_below true n k h lt = lt
guarded_below false n k h lt = cc

pub below_guarded : (b : Bool) (n k : ℕ) → k < (if b then n else 0) → IsTrue b × (k < n)
below_guarded true n k lt = (refl, lt)
below_guarded false n k lt = absurd (omega arith)

-- a place of two sides is one of the first, or one of the second behind those of the first
pub split_place : (k m n : ℕ) → k < m + n → (k < m) ⊎ ((j : ℕ) × (k ≡ m + j) × (j < n))
split_place k zero n h = inr (k, omega arith, omega arith)
split_place zero (suc m) n h = inl (omega arith)
split_place (suc k) (suc m) n h =
    elim (split_place k m n (omega arith)) [
      | inl b ↦ inl (omega arith)
      | inr b ↦ let at = b.1 in inr (b.0, omega arith, b.2)
    ]
