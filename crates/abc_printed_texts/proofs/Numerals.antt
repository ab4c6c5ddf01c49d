-- A number's digits are read as that number.
use Rattle.std.proofs.Common.{◌≡◌, ℕ, zero, suc, ◌+◌, ◌-◌, ◌*◌, ◌^◌, ◌<◌, true, List, [], ◌∷◌, length, decimal, refl, ap, ◌∙◌, arith}
use Rattle.std.specs.Prelude.{fold}
use Rattle.std.specs.Int.{IsInRange}
use Rattle.std.specs.List.{AllPass}
use Rattle.std.specs.Char.{digit_value}
use Rattle.std.specs.Str.Parse.{AllDigits, digits_value_after}
use Rattle.std.proofs.lemmas.Bool.Decides.{nat_tests}
use Rattle.std.proofs.lemmas.Fmt.{decimal_is_IsNumeral}
use Rattle.std.proofs.lemmas.Str.{digit_value_digit}
use Rattle.std.proofs.lemmas.Str.Parse.{digit_from_value}
use Rattle.abc_text.specs.Tokens as text

-- A byte from 48 to 57 is a digit.
digit_byte : (b : ℕ) → IsInRange 48 57 b → text.is_digit b ≡ true
digit_byte b h = let low = h.0 in let high = h.1 in grind (arith, nat_tests)

-- Digits of std are digits of a text.
digits_pass : (ds : List ℕ) → AllDigits 10 ds → AllPass text.is_digit ds
digits_pass [] h k d lt = absurd (omega (arith, lt))
digits_pass (c ∷ cs) h zero d lt = digit_byte c (digit_from_value c h.0)
digits_pass (c ∷ cs) h (suc k) d lt = digits_pass cs h.1 k d (omega (arith, lt))

-- the digits behind those of n write the same number for both readers
same_value : (n : ℕ) (ds : List ℕ) → AllDigits 10 ds → fold (λ m b. m * 10 + (b - 48)) n ds ≡ digits_value_after 10 n ds
same_value n [] h = refl
same_value n (c ∷ cs) h =
    let value = digit_value_digit c (digit_from_value c h.0) in
    let here : n * 10 + (c - 48) ≡ n * 10 + digit_value c = omega (arith, value) in
    ap (λ (m : ℕ). fold (λ (k b : ℕ). k * 10 + (b - 48)) m cs) here ∙ same_value (n * 10 + digit_value c) cs h.1

-- a decimal number is digits, at least one
pub decimal_digits : (n : ℕ) → n < 2 ^ 64 → AllPass text.is_digit (decimal n)
decimal_digits n h = digits_pass (decimal n) (decimal_is_IsNumeral n h).0.1

-- It has at least one.
pub decimal_some : (n : ℕ) → n < 2 ^ 64 → 0 < length (decimal n)
decimal_some n h = (decimal_is_IsNumeral n h).0.0

-- and is read as its number
pub decimal_back : (n : ℕ) → n < 2 ^ 64 → text.decimal (decimal n) ≡ n
decimal_back n h = let numeral = decimal_is_IsNumeral n h in same_value 0 (decimal n) numeral.0.1 ∙ numeral.1
