-- The first numbers, one more at a time and by their places.
use Rattle.std.proofs.Common.{◌≡◌, ℕ, zero, suc, ◌+◌, ◌<◌, ◌≤◌, ◌-◌, [], ◌∷◌, ◌++◌, get_or, ◌∙◌, ap, arith}
use Rattle.std.specs.Prelude.{Contains, ◌↔◌}
use Rattle.std.specs.List.{range_with_len}
use Rattle.std.specs.List.Sorted.{IsStrictlyIncreasing}
use Rattle.std.proofs.lemmas.List.FromFn.{length-range_with_len, get_or-range_with_len}
use Rattle.abc_number.specs.Draws.{first_numbers}

-- a range that is one longer ends with the next number
range_with_len-more : (a n : ℕ) → range_with_len a (suc n) ≡ range_with_len a n ++ (a + n) ∷ []
range_with_len-more a zero = let e : a ≡ a + 0 = omega arith in ap (λ x. x ∷ []) e
range_with_len-more a (suc n) =
    let e : a + 1 + n ≡ a + suc n = omega arith in
    ap (λ xs. a ∷ xs) (range_with_len-more (a + 1) n ∙ ap (λ x. range_with_len (a + 1) n ++ x ∷ []) e)

-- one more number is the next one
pub first_numbers-more : (n : ℕ) → first_numbers (n + 1) ≡ first_numbers n ++ (n + 1) ∷ []
first_numbers-more n =
    let s : n + 1 ≡ suc n = omega arith in
    let e : 1 + n ≡ n + 1 = omega arith in
    ap first_numbers s ∙ (range_with_len-more 1 n ∙ ap (λ x. first_numbers n ++ x ∷ []) e)

-- the number at a place is one more than the place
at : (n k : ℕ) → k < n → (d : ℕ) → get_or (first_numbers n) k d ≡ 1 + k
at n k l d = get_or-range_with_len 1 n k d l

-- the first numbers rise
pub IsStrictlyIncreasing-first_numbers : (n : ℕ) → IsStrictlyIncreasing (first_numbers n)
IsStrictlyIncreasing-first_numbers n k l =
    let e = length-range_with_len 1 n in
    let more : k + 1 < n = omega arith in
    let a = at n k (omega arith) 0 in
    let b = at n (k + 1) more 0 in
    omega arith

-- they are all from 1 to their count
pub Contains-first_numbers : (n m : ℕ) → Contains (first_numbers n) m ↔ ((0 < m) × (m ≤ n))
Contains-first_numbers n m =
    let e = length-range_with_len 1 n in
    let to : Contains (first_numbers n) m → (0 < m) × (m ≤ n) =
    λ c.
    let l : c.0 < n = omega (arith, c.1) in
    let a = at n c.0 l m in
    (omega (arith, c.2), omega (arith, c.2)) in
    let from : (0 < m) × (m ≤ n) → Contains (first_numbers n) m =
    λ h.
    let l : m - 1 < n = omega (arith, h.0, h.1) in
    let a = at n (m - 1) l m in
    (m - 1, omega arith, omega (arith, h.0)) in
    (to, from)
