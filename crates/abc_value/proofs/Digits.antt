-- Decimal numbers at the front of bytes.
use Rattle.std.proofs.Common.{◌≡◌, ℕ, ◌+◌, ◌-◌, ◌*◌, ◌/◌, ◌%◌, ◌^◌, ◌<◌, ◌≤◌, List, [], ◌∷◌, ◌++◌, length, get_or, take, ap, sym, subst, ◌∙◌, inl, inr, arith, length-append, decimal}
use Rattle.std.specs.Char.{digit_value}
use Rattle.std.specs.Int.{IsInRange}
use Rattle.std.specs.Str.Parse.{AllDigits, digits_value}
use Rattle.std.proofs.lemmas.Bool.{cases_lt}
use Rattle.std.proofs.lemmas.Bool.Decides.{nat_tests}
use Rattle.std.proofs.lemmas.List.{get_or_append_left, take-append-le, take_more}
use Rattle.std.proofs.lemmas.Fmt.{decimal_is_IsNumeral, decimal_digit, decimal_step, first_decimal, decimal_nonempty}
use Rattle.std.proofs.lemmas.Int.Digits.{digits_value_more}
use Rattle.std.proofs.lemmas.Str.Parse.{digit_at, digits_value-take-le}
use Rattle.abc_value.specs.Literals.{BeginsWith}
use Rattle.abc_value.specs.Reading.{IsDigitAt, NoDigitAt, IsMore, NoMore, IsDecimalFront, NoDecimal}

value_digit : (d : ℕ) → d < 10 → digit_value (48 + d) ≡ d
value_digit d h = grind (arith, nat_tests)

all_digits : (k : ℕ) → k < 2 ^ 64 → AllDigits 10 (decimal k)
all_digits k h = (decimal_is_IsNumeral k h).0.1

-- each byte of a decimal number is a digit
pub digit_of : (k : ℕ) → k < 2 ^ 64 → (i : ℕ) → i < length (decimal k) → IsInRange 48 57 (get_or (decimal k) i 0)
digit_of k h i l = digit_at (decimal k) i (all_digits k h) l

-- what stands in the front stands in the bytes
pub seen_at : (bytes text : List ℕ) → BeginsWith bytes text → (i : ℕ) → i < length text → (i < length bytes) × (get_or bytes i 0 ≡ get_or text i 0)
seen_at bytes text b i l =
    let e = ap length b.1 in
    ((let a = length-append text b.0 in omega arith), ap (λ s. get_or s i 0) b.1 ∙ get_or_append_left text b.0 0 i l)

digit_seen : (bytes : List ℕ) (k : ℕ) → k < 2 ^ 64 → BeginsWith bytes (decimal k) → (i : ℕ) → i < length (decimal k) → (d : ℕ) × (IsDigitAt bytes i d × (get_or (decimal k) i 0 ≡ 48 + d))
digit_seen bytes k h b i l =
    let r = digit_of k h i l in
    let s = seen_at bytes (decimal k) b i l in
    (get_or (decimal k) i 0 - 48, (((let r0 = r.0 in let r1 = r.1 in omega arith), s.0, (let e = s.1 in let r0 = r.0 in omega arith)), (let r0 = r.0 in omega arith)))

pub no_decimal : (bytes : List ℕ) → NoDigitAt bytes 0 → NoDecimal bytes
no_decimal bytes none k h b = let s = digit_seen bytes k h b 0 (decimal_nonempty k h) in none s.0 s.1.0

pub zero_front : (bytes : List ℕ) (most : ℕ) → most < 2 ^ 64 → IsDigitAt bytes 0 0 → IsDecimalFront bytes most 0 1
zero_front bytes most h d = record {
  below = omega arith;
  within = let l = d.1 in omega arith;
  front = take_more bytes 0 0 d.1 ∙ ap (λ c. c ∷ []) d.2 ∙ sym (decimal_digit 0 (omega arith));
  longest = λ k l b. elim (cases_lt 0 k) [
    | inl g ↦ let s = seen_at bytes (decimal k) b 0 (decimal_nonempty k (omega arith)) in let e = s.1 in let f = first_decimal k g (omega arith) in let z = d.2 in absurd (omega arith)
    | inr g ↦ let e : k ≡ 0 = omega arith in subst (λ j. length (decimal j) ≤ 1) (sym e) (let o = ap length (decimal_digit 0 (omega arith)) in omega arith)
  ];
}

pub decimal_more : (m d : ℕ) → 0 < m → d < 10 → m * 10 + d < 2 ^ 64 → decimal (m * 10 + d) ≡ decimal m ++ ((48 + d) ∷ [])
decimal_more m d p q h =
    let n = m * 10 + d in
    let a : (m * 10 + d) / 10 ≡ m = omega arith in
    let b : (m * 10 + d) % 10 ≡ d = omega arith in
    decimal_step (m * 10 + d) (omega arith) h ∙ ap (λ j. decimal j ++ ((48 + (m * 10 + d) % 10) ∷ [])) a ∙ ap (λ j. decimal m ++ ((48 + j) ∷ [])) b

-- no longer front is a decimal number within the most, where one more digit is not there or too much
pub longest_at : (bytes : List ℕ) (most at value : ℕ) → most < 2 ^ 64 → value ≤ most → take at bytes ≡ decimal value → at ≤ length bytes → NoMore value bytes at most → (k : ℕ) → k ≤ most → BeginsWith bytes (decimal k) → length (decimal k) ≤ at
longest_at bytes most at value h v front within stop k l b =
    elim (cases_lt at (length (decimal k))) [
      | inr g ↦ g
      | inl g ↦
          let s = digit_seen bytes k (omega arith) b at g in
          let big = stop s.0 s.1.0 in
          let same : take at (decimal k) ≡ decimal value = sym (take-append-le at (decimal k) b.0 (omega arith)) ∙ sym (ap (λ t. take at t) b.1) ∙ front in
          let cut : digits_value 10 (take (at + 1) (decimal k)) ≡ digits_value 10 (take at (decimal k)) * 10 + digit_value (get_or (decimal k) at 0) = digits_value_more 10 (decimal k) at g in
          let val : digits_value 10 (take at (decimal k)) ≡ value = ap (λ t. digits_value 10 t) same ∙ (decimal_is_IsNumeral value (omega arith)).1 in
          let dig : digit_value (get_or (decimal k) at 0) ≡ s.0 = ap digit_value s.1.1 ∙ value_digit s.0 s.1.0.0 in
          let most_k : digits_value 10 (take (at + 1) (decimal k)) ≤ digits_value 10 (decimal k) = digits_value-take-le 10 (decimal k) (at + 1) (omega arith) in
          let all : digits_value 10 (decimal k) ≡ k = (decimal_is_IsNumeral k (omega arith)).1 in
          absurd (omega arith)
    ]

pub record IsSoFar (bytes : List ℕ) (most value at : ℕ) : Type 0 where
  pub some : 0 < value
  pub below : value ≤ most
  pub within : at ≤ length bytes
  pub front : take at bytes ≡ decimal value

pub so_far_first : (bytes : List ℕ) (most d : ℕ) → 9 ≤ most → IsDigitAt bytes 0 d → (d ≡ 0 → ⊥) → IsSoFar bytes most d 1
so_far_first bytes most d h at n = record {
  some = omega arith;
  below = let l = at.0 in omega arith;
  within = let l = at.1 in omega arith;
  front = take_more bytes 0 0 at.1 ∙ ap (λ c. c ∷ []) at.2 ∙ sym (decimal_digit d at.0);
}

pub so_far_more : (bytes : List ℕ) (most value at next : ℕ) → most < 2 ^ 64 → IsSoFar bytes most value at → IsMore value bytes at most next → IsSoFar bytes most next (at + 1)
so_far_more bytes most value at next h so m =
    let d = m.digit.0 in
    let is = m.digit.1.0 in
    let e = m.digit.1.1 in
    let b = m.below in
    let p = so.some in
    record {
      some = omega arith;
      below = b;
      within = let l = is.1 in omega arith;
      front = take_more bytes at 0 is.1 ∙ ap (λ t. t ++ (get_or bytes at 0 ∷ [])) so.front ∙ ap (λ c. decimal value ++ (c ∷ [])) is.2 ∙ sym (decimal_more value d p is.0 (omega arith)) ∙ ap decimal (sym e);
    }

pub so_far_end : (bytes : List ℕ) (most value at : ℕ) → most < 2 ^ 64 → IsSoFar bytes most value at → NoMore value bytes at most → IsDecimalFront bytes most value at
so_far_end bytes most value at h so stop = record {
  below = so.below;
  within = so.within;
  front = so.front;
  longest = longest_at bytes most at value h so.below so.front so.within stop;
}
