-- Numbers at the front of bytes.
use Rattle.std.proofs.Common.{◌≡◌, ℕ, zero, suc, ◌+◌, ◌-◌, ◌*◌, ◌^◌, ◌<◌, ◌≤◌, true, false, List, [], ◌∷◌, ◌++◌, length, get_or, take, drop, decimal, refl, sym, ap, ◌∙◌, subst, inl, inr, arith, append-nil}
use Rattle.std.specs.Prelude.{◌==◌, fold, Option, Some, None, MatchOption}
use Rattle.std.specs.Option.{SomeIff}
use Rattle.std.specs.Int.{IsInRange}
use Rattle.std.specs.List.{AllPass}
use Rattle.std.proofs.lemmas.Bool.{cases_lt}
use Rattle.std.proofs.lemmas.Bool.Decides.{nat_tests}
use Rattle.std.proofs.lemmas.Fmt.{digits_decimal, digits_value-decimal, decimal_injective, decimal-digits_value, decimal_nonempty, decimal_digit, first_decimal}
use Rattle.std.proofs.lemmas.List.Elements.{All-nil, All-cons, All-head, All-tail}
use Rattle.std.proofs.lemmas.List.Sums.{fold_more}
use Rattle.std.proofs.lemmas.Str.Parse.{IsDigitsTest, FoldsDigits, IsNumeralModel, numerals_by_fold}
use Rattle.abc_text.specs.Tokens.{is_digit}
use Rattle.abc_text.specs.Tokens as text
use Rattle.abc_trace.specs.declared.limits.TheConstants.{MOST_PLACE}
use Rattle.abc_trace_lines.specs.Fronts.{StopsAt, IsCut, IsNumberText, IsNumberBefore, IsNumberFront, IsPlaceFront}
use Rattle.abc_trace_lines.proofs.Cuts.{run_split, cut_one}

-- ---- digits
pub digit_in : (b : ℕ) → is_digit b ≡ true → IsInRange 48 57 b
digit_in b h = grind (arith, nat_tests)

in_digit : (b : ℕ) → IsInRange 48 57 b → is_digit b ≡ true
in_digit b h = let low = h.0 in let high = h.1 in grind (arith, nat_tests)

digits_test : IsDigitsTest (AllPass is_digit)
digits_test = record {
  empty = All-nil (λ x. is_digit x ≡ true);
  parts = λ c cs h. (
    digit_in c (All-head (λ x. is_digit x ≡ true) c cs h),
    All-tail
        (λ x. is_digit x ≡ true) c cs h,
  );
  more = λ c cs h k. All-cons (λ x. is_digit x ≡ true) c cs (in_digit c h) k;
}

-- the number that digits write, behind those of n
value_behind : ℕ → List ℕ → ℕ
value_behind n ds = fold (λ m b. m * 10 + (b - 48)) n ds

folds : FoldsDigits value_behind
unfolding value_behind
folds = record { empty = λ n. refl; more = λ n c cs h. refl }

-- Runs of digits and the numbers that they write are those of std.
pub numerals : IsNumeralModel (AllPass is_digit) text.decimal
unfolding value_behind
numerals = numerals_by_fold (AllPass is_digit) digits_test value_behind folds

-- A decimal number is digits.
pub decimal_digits : (n : ℕ) → n < 2 ^ 64 → AllPass is_digit (decimal n)
decimal_digits n h = digits_decimal numerals n h

-- Two numbers before what goes on with no digit are one.
pub number_split : (n m : ℕ) (r s : List ℕ) → n < 2 ^ 64 → m < 2 ^ 64 → StopsAt is_digit r →
    StopsAt is_digit s → decimal n ++ r ≡ decimal m ++ s → (n ≡ m) × (r ≡ s)
number_split n m r s h k u v e =
    let both = run_split is_digit (decimal n) (decimal m) r s (decimal_digits n h)
    (decimal_digits m k) u v e in
    (decimal_injective n m h k both.0, both.1)

-- ---- the number that digits write
-- digits only make it greater
value_grows : (n : ℕ) (ds : List ℕ) → n ≤ fold (λ m b. m * 10 + (b - 48)) n ds
value_grows n [] = omega arith
value_grows n (b ∷ bs) = let more = value_grows (n * 10 + (b - 48)) bs in omega (arith, more)

front_less : (n : ℕ) (ds : List ℕ) (i : ℕ) →
    fold (λ m b. m * 10 + (b - 48)) n (take i ds) ≤ fold (λ m b. m * 10 + (b - 48)) n ds
front_less n [] zero = omega arith
front_less n [] (suc i) = omega arith
front_less n (b ∷ bs) zero = value_grows n (b ∷ bs)
front_less n (b ∷ bs) (suc i) = front_less (n * 10 + (b - 48)) bs i

-- so a front that writes too much is enough
pub front_decimal : (ds : List ℕ) (i : ℕ) → text.decimal (take i ds) ≤ text.decimal ds
front_decimal ds i = front_less 0 ds i

-- One more digit makes ten times as much, and the digit.
pub value_more : (ds : List ℕ) (i : ℕ) → i < length ds →
    text.decimal (take (i + 1) ds) ≡ text.decimal (take i ds) * 10 + (get_or ds i 0 - 48)
value_more ds i lt = fold_more (λ (m b : ℕ). m * 10 + (b - 48)) 0 ds i 0 lt

-- Where one more digit is too much, all are.
pub value_wide : (ds : List ℕ) (i value b : ℕ) → value ≡ text.decimal (take i ds) → i < length ds →
    b ≡ get_or ds i 0 → ¬ (value * 10 + (b - 48) < 2 ^ 64) → ¬ (text.decimal ds < 2 ^ 64)
value_wide ds i value b e lt at wide fits =
    let more = value_more ds i lt in
    let least = front_decimal ds (i + 1) in
    wide (omega (arith, e, at, more, least, fits))

-- ---- numbers by their digits
-- digits with no leading zero whose number fits are its text
text_of_value : (ds : List ℕ) → AllPass is_digit ds → 0 < length ds →
    (get_or ds 0 0 ≡ 48 → length ds ≡ 1) → text.decimal ds < 2 ^ 64 →
    IsNumberText ds (text.decimal ds)
text_of_value ds h some alone fits = record {
  fits = fits;
  text = sym (decimal-digits_value numerals ds h some alone fits);
}

-- So the number that such digits write is that of which they are the text, if there is one.
pub number_is : (ds : List ℕ) (first : ℕ) (more : List ℕ) (r : Option ℕ) → ds ≡ first ∷ more →
    AllPass is_digit ds → (first ≡ 48 → length more ≡ 0) →
    SomeIff r (text.decimal ds < 2 ^ 64) (text.decimal ds) →
    MatchOption r ((n : ℕ) → ¬ (IsNumberText ds n)) (λ n. IsNumberText ds n)
number_is ds first more None e h alone wide =
    λ n is. wide (let value = ap text.decimal is.text
    ∙ digits_value-decimal numerals n is.fits in let fits = is.fits in omega (arith, value, fits))
number_is ds first more (Some n) e h alone is =
    let long = ap length e in
    subst (λ (k : ℕ). IsNumberText ds k) (sym is.1) (text_of_value ds h (omega (arith, long))
    (λ z. let none = alone (sym (ap (λ (t : List ℕ). get_or t 0 0) e) ∙ z) in omega
    (arith, long, none)) is.0)

-- no digits are no number's text
pub empty_no_number : (ds : List ℕ) → length ds ≡ 0 → (n : ℕ) → ¬ (IsNumberText ds n)
empty_no_number ds e n is =
    let some = decimal_nonempty n is.fits in let same = ap length is.text in omega
    (arith, some, same)

-- nor are more than one of which the first is 0
pub zero_no_number : (ds : List ℕ) (b : ℕ) (more : List ℕ) → ds ≡ b ∷ more → b ≡ 48 →
    0 < length more → (n : ℕ) → ¬ (IsNumberText ds n)
zero_no_number ds b more e zeroed some n is =
    let long : 1 < length ds = let l = ap length e in omega (arith, l, some) in
    let first : get_or ds 0 0 ≡ 48 = ap (λ (t : List ℕ). get_or t 0 0) e ∙ zeroed in
    elim (cases_lt 0 n) [
      | inl some ↦
          let great = first_decimal n some is.fits in
          let same = ap (λ (t : List ℕ). get_or t 0 0) is.text in
          omega (arith, great, same)
      | inr none ↦
          let same = ap length is.text in
          let zero : n ≡ 0 = omega arith in
          let one = ap (λ (k : ℕ). length (decimal k)) zero in
          let short = ap length (decimal_digit 0 (omega arith)) in
          omega (arith, same, one, short)
    ]

-- ---- numbers at the front
-- The digits at the front are a number's, where a number stands there.
pub text_of_front : (bytes ds more rest : List ℕ) (n : ℕ) → IsCut is_digit bytes ds more →
    IsNumberFront bytes n rest → IsNumberText ds n
text_of_front bytes ds more rest n cut is =
    let mine : IsCut is_digit bytes (decimal n) rest = record {
      text = is.text;
      passes = decimal_digits n is.fits;
      stops = is.stops;
    } in
    record { fits = is.fits; text = (cut_one is_digit bytes ds (decimal n) more rest cut mine).0 }

-- A number before a byte that is no digit stands at the front.
pub front_of_before : (mark : ℕ) (bytes more : List ℕ) (n : ℕ) → is_digit mark ≡ false →
    IsNumberBefore mark bytes n more → IsNumberFront bytes n (mark ∷ more)
front_of_before mark bytes more n stop is = record { fits = is.fits; text = is.text; stops = stop }

-- There is one number at the front.
pub front_one : (bytes r s : List ℕ) (n m : ℕ) → IsNumberFront bytes n r → IsNumberFront bytes m s →
    (n ≡ m) × (r ≡ s)
front_one bytes r s n m a b =
    number_split n m r s a.fits b.fits a.stops b.stops (sym a.text ∙ b.text)

-- There is one number before a byte that is no digit.
pub before_one : (mark : ℕ) (bytes r s : List ℕ) (n m : ℕ) → is_digit mark ≡ false →
    IsNumberBefore mark bytes n r → IsNumberBefore mark bytes m s → (n ≡ m) × (r ≡ s)
before_one mark bytes r s n m stop a b =
    let both = front_one bytes (mark ∷ r) (mark ∷ s) n m (front_of_before mark bytes r n stop a)
    (front_of_before mark bytes s m stop b) in
    let more : mark ∷ r ≡ mark ∷ s = both.1 in
    (both.0, ap (λ (t : List ℕ). drop 1 t) more)

-- ---- numbers that are all of the bytes, and places
-- A number that is all of the bytes stands at their front.
pub front_of_whole : (bytes : List ℕ) (n : ℕ) → IsNumberText bytes n → IsNumberFront bytes n []
front_of_whole bytes n is =
    record { fits = is.fits; text = is.text ∙ sym (append-nil (decimal n)); stops = tt }

-- what is not empty is none
pub not_empty : (more : List ℕ) → false ≡ (length more == 0) → ¬ (more ≡ [])
not_empty more e f = let h : false ≡ true = e ∙ ap (λ (t : List ℕ). length t == 0) f in cc

-- Where more follows the number at the front, the bytes are no number.
pub whole_not : (bytes more : List ℕ) (k : ℕ) → IsNumberFront bytes k more →
    false ≡ (length more == 0) → (n : ℕ) → ¬ (IsNumberText bytes n)
whole_not bytes more k front some n is =
    not_empty more some (front_one bytes more [] k n front (front_of_whole bytes n is)).1

pub front_of_place : (bytes more : List ℕ) (n : ℕ) → IsPlaceFront bytes n more →
    IsNumberFront bytes n more
front_of_place bytes more n is =
    record { fits = let h = is.fits in omega (arith, h); text = is.text; stops = is.stops }

-- Where the number at the front is too great, no place stands there.
pub place_not : (bytes rest : List ℕ) (k : ℕ) → IsNumberFront bytes k rest → MOST_PLACE < k →
    (n : ℕ) (more : List ℕ) → ¬ (IsPlaceFront bytes n more)
place_not bytes rest k front great n more is =
    let same = (front_one bytes rest more k n front (front_of_place bytes more n is)).0 in
    let fits = is.fits in
    omega (arith, great, same, fits)
