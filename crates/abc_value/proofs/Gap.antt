-- The least number that is no member, by one pass over the sorted members.
use Rattle.std.proofs.Common.{◌≡◌, ℕ, zero, suc, ◌+◌, ◌<◌, ◌≤◌, true, false, List, [], ◌∷◌, length, get_or, drop, refl, ap, sym, subst, ◌∙◌, inl, inr, pos, if◌then◌else◌, arith}
use Rattle.std.specs.declared.cmp.Ordering.TheVariants.{Less}
use Rattle.std.proofs.lemmas.Bool.Decides.{nat_tests}
use Rattle.std.proofs.lemmas.Bool.{true≢false, false≢true, or_cases, cases_lt, false_from_ne_true}
use Rattle.std.proofs.lemmas.List.{drop_more, drop_all}
use Rattle.abc_value.specs.declared.scalar.Scalar.{Scalar}
use Rattle.abc_value.specs.declared.scalar.Scalar.TheVariants.{Number}
use Rattle.abc_value.specs.Scalars.{scalar_cmp, scalar_eq}
use Rattle.abc_value.specs.Sets.{Rises, has, free_from, least_free_of}
use Rattle.abc_value.proofs.Order.{eq_same}
use Rattle.abc_value.proofs.Members.{has_here, has_there, above, rises_tail}

-- the next free number after a pass over the rest
abbrev pub passed : ℕ → List Scalar → ℕ
passed n [] = n
passed n (x ∷ xs) = if scalar_eq x (Number (pos n)) then passed (n + 1) xs else passed n xs

pub passed_up : (n : ℕ) (xs : List Scalar) → n ≤ passed n xs
passed_up n [] = omega arith
passed_up n (x ∷ xs) = elim (scalar_eq x (Number (pos n))) as (λ b. n ≤ (if b then passed (n + 1) xs else passed n xs)) [
  | true ↦ let h = passed_up (n + 1) xs in omega arith
  | false ↦ passed_up n xs
]

pub passed_short : (n : ℕ) (xs : List Scalar) → passed n xs ≤ n + length xs
passed_short n [] = omega arith
passed_short n (x ∷ xs) = elim (scalar_eq x (Number (pos n))) as (λ b. (if b then passed (n + 1) xs else passed n xs) ≤ n + suc (length xs)) [
  | true ↦ let h = passed_short (n + 1) xs in omega arith
  | false ↦ let h = passed_short n xs in omega arith
]

pub taken : (n : ℕ) (xs : List Scalar) (k : ℕ) → n ≤ k → k < passed n xs → has xs (Number (pos k)) ≡ true
taken n [] k l h = absurd (omega arith)
taken n (x ∷ xs) k l h0 =
    elim (scalar_eq x (Number (pos n))) as (λ b. scalar_eq x (Number (pos n)) ≡ b → k < (if b then passed (n + 1) xs else passed n xs) → has (x ∷ xs) (Number (pos k)) ≡ true) [
      | true ↦ λ e h. elim (cases_lt n k) [
        | inl g ↦ has_there x xs (Number (pos k)) (taken (n + 1) xs k (omega arith) h)
        | inr g ↦ let same : n ≡ k = omega arith in
            subst (λ m. has (x ∷ xs) (Number (pos m)) ≡ true) same
            (subst (λ y. has (x ∷ xs) y ≡ true) (eq_same x (Number (pos n)) e) (has_here x xs))
      ]
      | false ↦ λ e h. has_there x xs (Number (pos k)) (taken n xs k l h)
    ] refl h0

below_number : (m n : ℕ) → m < n → scalar_cmp (Number (pos n)) (Number (pos m)) ≡ Less → ⊥
below_number m n h e = grind (arith, nat_tests)

pub left_free : (n : ℕ) (xs : List Scalar) → Rises xs → has xs (Number (pos (passed n xs))) ≡ true → ⊥
left_free n [] r h = false≢true h
left_free n (x ∷ xs) r h0 =
    elim (scalar_eq x (Number (pos n))) as (λ b. scalar_eq x (Number (pos n)) ≡ b → has (x ∷ xs) (Number (pos (if b then passed (n + 1) xs else passed n xs))) ≡ true → ⊥) [
      | true ↦ λ e h. elim (or_cases (scalar_eq x (Number (pos (passed (n + 1) xs)))) (has xs (Number (pos (passed (n + 1) xs)))) h) [
        | inl s ↦ let up = passed_up (n + 1) xs in
            let same : Number (pos n) ≡ Number (pos (passed (n + 1) xs)) = sym (eq_same x (Number (pos n)) e) ∙ eq_same x (Number (pos (passed (n + 1) xs))) s in
            let equal : n ≡ passed (n + 1) xs = cc in
            omega arith
        | inr t ↦ left_free (n + 1) xs (rises_tail x xs r) t
      ]
      | false ↦ λ e h. elim (or_cases (scalar_eq x (Number (pos (passed n xs)))) (has xs (Number (pos (passed n xs)))) h) [
        | inl s ↦ let up = passed_up n xs in
            elim (cases_lt n (passed n xs)) [
              | inl g ↦ below_number n (passed n xs) g
                  (subst (λ y. scalar_cmp y (Number (pos n)) ≡ Less) (eq_same x (Number (pos (passed n xs))) s)
                  (above x xs r (Number (pos n)) (taken n xs n (omega arith) g)))
              | inr g ↦ let same : passed n xs ≡ n = omega arith in
                  true≢false (sym (subst (λ m. scalar_eq x (Number (pos m)) ≡ true) same s) ∙ e)
            ]
        | inr t ↦ left_free n xs (rises_tail x xs r) t
      ]
    ] refl h0

-- the first free number is the only one below which all are taken
only : (s : List Scalar) (c : ℕ) → has s (Number (pos c)) ≡ false → ((k : ℕ) → k < c → has s (Number (pos k)) ≡ true) → (tries n : ℕ) → n ≤ c → c ≤ n + tries → free_from tries n s ≡ c
only s c free below zero n l h = omega arith
only s c free below (suc t) n l h =
    elim (has s (Number (pos n))) as (λ b. has s (Number (pos n)) ≡ b → (if b then free_from t (n + 1) s else n) ≡ c) [
      | true ↦ λ e. elim (cases_lt n c) [
        | inl g ↦ only s c free below t (n + 1) (omega arith) (omega arith)
        | inr g ↦ let same : c ≡ n = omega arith in absurd (true≢false (sym e ∙ subst (λ m. has s (Number (pos m)) ≡ false) same free))
      ]
      | false ↦ λ e. elim (cases_lt n c) [
        | inl g ↦ absurd (true≢false (sym (below n g) ∙ e))
        | inr g ↦ omega arith
      ]
    ] refl

pub passed_is_least : (s : List Scalar) → Rises s → passed 0 s ≡ least_free_of s
passed_is_least s r =
    sym (only s (passed 0 s) (false_from_ne_true (has s (Number (pos (passed 0 s)))) (left_free 0 s r)) (λ k h. taken 0 s k (omega arith) h) (length s) 0 (omega arith) (let h = passed_short 0 s in omega arith))

pub least_is_free : (s : List Scalar) → Rises s → has s (Number (pos (least_free_of s))) ≡ false
least_is_free s r = subst (λ n. has s (Number (pos n)) ≡ false) (passed_is_least s r) (false_from_ne_true (has s (Number (pos (passed 0 s)))) (left_free 0 s r))

pub below_least : (s : List Scalar) → Rises s → (n : ℕ) → n < least_free_of s → has s (Number (pos n)) ≡ true
below_least s r n h = taken 0 s n (omega arith) (subst (λ m. n < m) (sym (passed_is_least s r)) h)

-- ---- steps of the pass
module _ (xs : List Scalar) (i n : ℕ) (d : Scalar) (below : i < length xs) where
  step : passed n (drop i xs) ≡ (if scalar_eq (get_or xs i d) (Number (pos n)) then passed (n + 1) (drop (i + 1) xs) else passed n (drop (i + 1) xs))
  step = ap (λ l. passed n l) (drop_more xs i d below)

  pub pass_taken : scalar_eq (get_or xs i d) (Number (pos n)) ≡ true → passed (n + 1) (drop (i + 1) xs) ≡ passed n (drop i xs)
  pass_taken h = sym (step ∙ ap (λ b. if b then passed (n + 1) (drop (i + 1) xs) else passed n (drop (i + 1) xs)) h)

  pub pass_other : scalar_eq (get_or xs i d) (Number (pos n)) ≡ false → passed n (drop (i + 1) xs) ≡ passed n (drop i xs)
  pass_other h = sym (step ∙ ap (λ b. if b then passed (n + 1) (drop (i + 1) xs) else passed n (drop (i + 1) xs)) h)

pub pass_end : (xs : List Scalar) (i n : ℕ) → Rises xs → length xs ≤ i → passed n (drop i xs) ≡ passed 0 xs → n ≡ least_free_of xs
pass_end xs i n r l h = sym (ap (λ l. passed n l) (drop_all i xs l)) ∙ h ∙ passed_is_least xs r
