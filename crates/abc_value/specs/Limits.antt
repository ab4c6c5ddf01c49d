-- The limits of values: what is just within each, and what is just past it.
use Rattle.std.specs.Prelude.{◌≡◌, ℕ, zero, suc, ◌+◌, ◌-◌, ◌^◌, true, false, List, [], ◌∷◌, pos, negsuc, replicate}
use Rattle.abc_value.specs.declared.scalar.Scalar.{Scalar}
use Rattle.abc_value.specs.declared.scalar.Scalar.TheVariants.{Number, Text}
use Rattle.abc_value.specs.declared.value.Value.TheVariants.{Set, Nothing}
use Rattle.abc_value.specs.Sets.{IsSet}
use Rattle.abc_value.specs.Text.{IsPrintable}
use Rattle.abc_value.specs.Values.{fits_64, fitted_set}
use Rattle.abc_value.specs.Literals.{IsScalar}

-- so many numbers, from one on
abbrev pub numbers_from : ℕ → ℕ → List Scalar
numbers_from zero n = []
numbers_from (suc more) n = Number (pos n) ∷ numbers_from more (n + 1)

-- 0, 1 .. , so many numbers
abbrev pub first_numbers : ℕ → List Scalar
first_numbers count = numbers_from count 0

-- a text of so many bytes a
abbrev pub text_of : ℕ → Scalar
text_of size = Text (replicate size 97)

pub record LimitsOfValues : Type 0 where
  -- 256 members are a set, 257 are none
  pub set_of_256 : IsSet (first_numbers 256)
  pub none_of_257 : ¬ (IsSet (first_numbers 257))
  pub fitted_256 : fitted_set (first_numbers 256) ≡ Set (first_numbers 256)
  pub fitted_257 : fitted_set (first_numbers 257) ≡ Nothing
  -- a text of 64 bytes is one, of 65 none
  pub text_of_64 : IsScalar (text_of 64)
  pub none_of_65 : ¬ (IsScalar (text_of 65))
  -- the bytes from 32 to 126 are printable
  pub below_space : ¬ (IsPrintable 31)
  pub space : IsPrintable 32
  pub tilde : IsPrintable 126
  pub delete : ¬ (IsPrintable 127)
  -- numbers have 64 bits
  pub greatest : fits_64 (pos (2 ^ 63 - 1)) ≡ true
  pub too_great : fits_64 (pos (2 ^ 63)) ≡ false
  pub least : fits_64 (negsuc (2 ^ 63 - 1)) ≡ true
  pub too_small : fits_64 (negsuc (2 ^ 63)) ≡ false
