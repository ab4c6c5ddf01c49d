-- Sums over the numbers below another.
use Rattle.std.proofs.Common.{◌≡◌, ℕ, zero, suc, ◌+◌, ◌<◌, ◌≤◌, List, [], ◌∷◌, refl, ap}
use Rattle.std.proofs.Common.{◌∙◌, arith, inl, inr}
use Rattle.std.specs.Prelude.{◌==◌, if◌then◌else◌}
use Rattle.std.proofs.lemmas.Bool.{cases_eq}
use Rattle.abc_network_laws.specs.Kept.{total}
use Rattle.abc_network_laws.specs.StoreCharges.{sum_below}
use Rattle.abc_network_laws.proofs.Places.{bit-yes, bit-no}

-- Sums of what is the same are the same.
pub sum-same : (n : ℕ) (f g : ℕ → ℕ) → ((j : ℕ) → j < n → f j ≡ g j) → sum_below n f ≡ sum_below n g
sum-same zero f g h = refl
sum-same (suc n) f g h = let a = h n (omega arith) in
    let b = sum-same n f g (λ j low. h j (omega arith)) in omega arith

-- A sum of what is not more is not more.
pub sum-less : (n : ℕ) (f g : ℕ → ℕ) → ((j : ℕ) → j < n → f j ≤ g j) → sum_below n f ≤ sum_below n g
sum-less zero f g h = omega arith
sum-less (suc n) f g h = let a = h n (omega arith) in
    let b = sum-less n f g (λ j low. h j (omega arith)) in omega arith

-- The sum of two terms is the sum of their sums.
pub sum-add : (n : ℕ) (f g : ℕ → ℕ) → sum_below n (λ j. f j + g j) ≡ sum_below n f + sum_below n g
sum-add zero f g = refl
sum-add (suc n) f g = let b = sum-add n f g in omega arith

-- A sum of nothing.
pub sum-zero : (n : ℕ) → sum_below n (λ j. 0) ≡ 0
sum-zero zero = refl
sum-zero (suc n) = let b = sum-zero n in omega arith

-- A sum of ones.
pub sum-ones : (n : ℕ) → sum_below n (λ j. 1) ≡ n
sum-ones zero = refl
sum-ones (suc n) = let b = sum-ones n in omega arith

-- The sum of what is 1 at one number, and 0 elsewhere.
pub sum-past : (n k : ℕ) → n ≤ k → sum_below n (λ j. if k == j then 1 else 0) ≡ 0
sum-past zero k h = refl
sum-past (suc n) k h = let a = bit-no k n 1 (λ e. absurd (omega arith)) in
    let b = sum-past n k (omega arith) in omega arith

-- It is 1 where the number is below.
pub sum-one : (n k : ℕ) → k < n → sum_below n (λ j. if k == j then 1 else 0) ≡ 1
sum-one zero k h = absurd (omega arith)
sum-one (suc n) k h = elim (cases_eq k n) [
  | inl e ↦ (let a = bit-yes k n 1 e in let b = sum-past n k (omega arith) in omega arith)
  | inr e ↦ (let a = bit-no k n 1 e in let b = sum-one n k (omega arith) in omega arith)
]

-- A sum over numbers of sums over a list is a sum over the list.
pub sum-total : (n : ℕ) (F : ℕ → ℕ → ℕ) (ls : List ℕ) →
    sum_below n (λ j. total (λ o. F o j) ls) ≡ total (λ o. sum_below n (F o)) ls
sum-total n F [] = sum-zero n
sum-total n F (l ∷ ls) = sum-add n (F l) (λ j. total (λ o. F o j) ls)
    ∙ ap (λ v. sum_below n (F l) + v) (sum-total n F ls)

-- The sum changes by the one term that changes.
pub sum-change : (n m : ℕ) (f g : ℕ → ℕ) → m < n → ((j : ℕ) → (m ≡ j → ⊥) → g j ≡ f j) →
    sum_below n g + f m ≡ sum_below n f + g m
sum-change zero m f g low h = absurd (omega arith)
sum-change (suc n) m f g low h = elim (cases_eq m n) [
  | inl e ↦ (
      let a = ap f e in let b = ap g e in
      let c = sum-same n g f (λ j lower. h j (λ s. absurd (omega arith))) in omega arith)
  | inr e ↦ (let a = h n e in let b = sum-change n m f g (omega arith) h in omega arith)
]

-- A change above the numbers changes nothing.
pub sum-apart : (n m : ℕ) (f g : ℕ → ℕ) → n ≤ m → ((j : ℕ) → (m ≡ j → ⊥) → g j ≡ f j) →
    sum_below n g ≡ sum_below n f
sum-apart n m f g high h = sum-same n g f (λ j low. h j (λ s. absurd (omega arith)))
