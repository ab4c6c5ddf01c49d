-- Which scalar's text stands at the front of bytes.
use Rattle.std.proofs.Common.{◌≡◌, ℕ, pos, negsuc, suc, add-one, ◌+◌, ◌-◌, ◌^◌, ◌<◌, ◌≤◌, true, false, List, [], ◌∷◌, ◌++◌, length, get_or, take, drop, ap, sym, subst, ◌∙◌, arith, length-take-le, get_or-take, flat_map, decimal}
use Rattle.std.specs.Int.{IsInRange}
use Rattle.std.proofs.lemmas.Bool.Decides.{nat_tests}
use Rattle.std.proofs.lemmas.Fmt.{decimal_nonempty, decimal_digit, first_decimal}
use Rattle.abc_value.specs.declared.scalar.Scalar.{Scalar}
use Rattle.abc_value.specs.declared.scalar.Scalar.TheVariants.{Number, Text, Truth}
use Rattle.abc_value.specs.Values.{fits_64}
use Rattle.abc_value.specs.Literals.{BeginsWith, IsScalar, scalar_text, escaped}
use Rattle.abc_value.specs.Reading.{IsDecimalFront, NoDecimal, IsScalarFront, NoScalar, IsNoMark}
use Rattle.abc_value.proofs.Digits.{digit_of, seen_at}

-- a number of 64 bits, by its digits
pub fits_pos : (n : ℕ) → fits_64 (pos n) ≡ true → n < 2 ^ 63
fits_pos n h = grind (arith, nat_tests)

pub fits_neg : (n : ℕ) → fits_64 (negsuc n) ≡ true → n < 2 ^ 63
fits_neg n h = grind (arith, nat_tests)

pos_fits : (n : ℕ) → n < 2 ^ 63 → fits_64 (pos n) ≡ true
pos_fits n h = grind (arith, nat_tests)

neg_fits : (n : ℕ) → n < 2 ^ 63 → fits_64 (negsuc n) ≡ true
neg_fits n h = grind (arith, nat_tests)

-- the text of a number, by its first byte
pub first_pos : (bytes : List ℕ) (n : ℕ) → n < 2 ^ 63 → BeginsWith bytes (decimal n) → IsInRange 48 57 (get_or bytes 0 0)
first_pos bytes n h b =
    let s = seen_at bytes (decimal n) b 0 (decimal_nonempty n (omega arith)) in
    subst (λ c. IsInRange 48 57 c) (sym s.1) (digit_of n (omega arith) 0 (decimal_nonempty n (omega arith)))

-- the text after the sign
after_minus : (bytes : List ℕ) (text : List ℕ) → BeginsWith bytes (45 ∷ text) → BeginsWith (drop 1 bytes) text
after_minus bytes text b = (b.0, ap (λ s. drop 1 s) b.1)

pub first_is : (bytes : List ℕ) (c : ℕ) (text : List ℕ) → BeginsWith bytes (c ∷ text) → get_or bytes 0 0 ≡ c
first_is bytes c text b = ap (λ s. get_or s 0 0) b.1

pub minus_first : (bytes : List ℕ) (n : ℕ) → BeginsWith bytes (scalar_text (Number (negsuc n))) → get_or bytes 0 0 ≡ 45
minus_first bytes n b = first_is bytes 45 (decimal (suc n)) b

pub quote_first : (bytes t : List ℕ) → BeginsWith bytes (scalar_text (Text t)) → get_or bytes 0 0 ≡ 34
quote_first bytes t b = first_is bytes 34 (flat_map escaped t ++ 34 ∷ []) b

pub true_first : (bytes : List ℕ) → BeginsWith bytes (scalar_text (Truth true)) → get_or bytes 0 0 ≡ 116
true_first bytes b = first_is bytes 116 (114 ∷ (117 ∷ (101 ∷ []))) b

pub false_first : (bytes : List ℕ) → BeginsWith bytes (scalar_text (Truth false)) → get_or bytes 0 0 ≡ 102
false_first bytes b = first_is bytes 102 (97 ∷ (108 ∷ (115 ∷ (101 ∷ [])))) b

pub natural_none : (bytes : List ℕ) → IsNoMark (get_or bytes 0 0) → NoDecimal bytes → NoScalar bytes
natural_none bytes m none (Number (pos n)) h b = none n (let l = fits_pos n h in omega arith) b
natural_none bytes m none (Number (negsuc n)) h b = m.minus (minus_first bytes n b)
natural_none bytes m none (Text t) h b = m.quote (quote_first bytes t b)
natural_none bytes m none (Truth true) h b = m.letter_t (true_first bytes b)
natural_none bytes m none (Truth false) h b = m.letter_f (false_first bytes b)

pub natural_some : (bytes : List ℕ) (m n : ℕ) → IsNoMark (get_or bytes 0 0) → IsDecimalFront bytes (2 ^ 63 - 1) m n → IsScalarFront bytes (Number (pos m)) n
natural_some bytes m n mark front = record {
  is_scalar = pos_fits m (let l = front.below in omega arith);
  within = front.within;
  front = front.front;
  longest = longest;
}
  where
    longest : (y : Scalar) → IsScalar y → BeginsWith bytes (scalar_text y) → length (scalar_text y) ≤ n
    longest (Number (pos k)) h b = front.longest k (let l = fits_pos k h in omega arith) b
    longest (Number (negsuc k)) h b = absurd (mark.minus (minus_first bytes k b))
    longest (Text t) h b = absurd (mark.quote (quote_first bytes t b))
    longest (Truth true) h b = absurd (mark.letter_t (true_first bytes b))
    longest (Truth false) h b = absurd (mark.letter_f (false_first bytes b))

pub negative_none : (bytes : List ℕ) → get_or bytes 0 0 ≡ 45 → NoDecimal (drop 1 bytes) → NoScalar bytes
negative_none bytes e none (Number (pos n)) h b = let r = first_pos bytes n (fits_pos n h) b in let r0 = r.0 in absurd (omega arith)
negative_none bytes e none (Number (negsuc n)) h b = none (suc n) (let l = fits_neg n h in omega arith) (after_minus bytes (decimal (suc n)) b)
negative_none bytes e none (Text t) h b = let f = quote_first bytes t b in absurd (omega arith)
negative_none bytes e none (Truth true) h b = let f = true_first bytes b in absurd (omega arith)
negative_none bytes e none (Truth false) h b = let f = false_first bytes b in absurd (omega arith)

zero_first : (bytes : List ℕ) (n k : ℕ) → IsDecimalFront bytes (2 ^ 63) 0 n → k ≤ 2 ^ 63 → 0 < k → BeginsWith bytes (decimal k) → ⊥
zero_first bytes n k front h p b =
    let s = seen_at bytes (decimal k) b 0 (decimal_nonempty k (omega arith)) in
    let f = first_decimal k p (omega arith) in
    let zero_text : take n bytes ≡ 48 ∷ [] = front.front ∙ decimal_digit 0 (omega arith) in
    let long : length (take n bytes) ≡ 1 = ap length zero_text in
    let n_is : length (take n bytes) ≡ n = length-take-le n bytes front.within in
    let first : get_or (take n bytes) 0 0 ≡ get_or bytes 0 0 = get_or-take n bytes 0 0 (omega arith) in
    let is : get_or (take n bytes) 0 0 ≡ 48 = ap (λ t. get_or t 0 0) zero_text in
    let e = s.1 in
    omega arith

pub negative_some : (bytes : List ℕ) (m n : ℕ) → get_or bytes 0 0 ≡ 45 → 0 < m → IsDecimalFront (drop 1 bytes) (2 ^ 63) m n → IsScalarFront bytes (Number (negsuc (m - 1))) (n + 1)
negative_some [] m n e p front = absurd (omega arith)
negative_some (c ∷ bytes) m n e p front = record {
  is_scalar = neg_fits (m - 1) (let l = front.below in omega arith);
  within = let w = front.within in omega arith;
  front = let same : suc (m - 1) ≡ m = omega arith in
      rw add-one (ap (λ b. b ∷ take n bytes) e ∙ ap (λ t. 45 ∷ t) (front.front ∙ ap decimal (sym same)));
  longest = longest;
}
  where
    longest : (y : Scalar) → IsScalar y → BeginsWith (c ∷ bytes) (scalar_text y) → length (scalar_text y) ≤ n + 1
    longest (Number (pos k)) h b = let r = first_pos (c ∷ bytes) k (fits_pos k h) b in let r0 = r.0 in absurd (omega arith)
    longest (Number (negsuc k)) h b = let l = front.longest (suc k) (let f = fits_neg k h in omega arith) (after_minus (c ∷ bytes) (decimal (suc k)) b) in omega arith
    longest (Text t) h b = let f = quote_first (c ∷ bytes) t b in absurd (omega arith)
    longest (Truth true) h b = let f = true_first (c ∷ bytes) b in absurd (omega arith)
    longest (Truth false) h b = let f = false_first (c ∷ bytes) b in absurd (omega arith)

-- `-0` is no number
pub negative_zero : (bytes : List ℕ) (n : ℕ) → get_or bytes 0 0 ≡ 45 → IsDecimalFront (drop 1 bytes) (2 ^ 63) 0 n → NoScalar bytes
negative_zero bytes n e front (Number (pos k)) h b = let r = first_pos bytes k (fits_pos k h) b in let r0 = r.0 in absurd (omega arith)
negative_zero bytes n e front (Number (negsuc k)) h b = absurd (zero_first (drop 1 bytes) n (suc k) front (let l = fits_neg k h in omega arith) (omega arith) (after_minus bytes (decimal (suc k)) b))
negative_zero bytes n e front (Text t) h b = let f = quote_first bytes t b in absurd (omega arith)
negative_zero bytes n e front (Truth true) h b = let f = true_first bytes b in absurd (omega arith)
negative_zero bytes n e front (Truth false) h b = let f = false_first bytes b in absurd (omega arith)
