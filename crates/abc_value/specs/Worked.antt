-- One example of the operators on sets, followed through the definitions.
use Rattle.std.specs.Prelude.{◌≡◌, ℕ, true, List, [], ◌∷◌, Some, pos}
use Rattle.abc_value.specs.declared.scalar.Scalar.{Scalar}
use Rattle.abc_value.specs.declared.scalar.Scalar.TheVariants.{Number, Text, Truth}
use Rattle.abc_value.specs.declared.value.Value.TheVariants.{Scalar as One, Set}
use Rattle.abc_value.specs.Values.{set_value, union_value, without_value, free_of}

-- a number, and the text "b"
abbrev pub number : ℕ → Scalar
number n = Number (pos n)

abbrev pub text_b : Scalar
text_b = Text (98 ∷ [])

-- {1, 3, "b", true}
abbrev pub four : List Scalar
four = number 1 ∷ number 3 ∷ text_b ∷ Truth true ∷ []

pub record SetOperators : Type 0 where
  -- the set of 3, "b", 1, true and 1
  pub made : set_value (One (number 3) ∷ One text_b ∷ One (number 1) ∷ One (Truth true) ∷ One (number 1) ∷ []) ≡ Set four
  -- with the set of 2
  pub joined : union_value (Set four) (Set (number 2 ∷ [])) ≡ Set (number 1 ∷ number 2 ∷ number 3 ∷ text_b ∷ Truth true ∷ [])
  -- without the set of 3
  pub cut : without_value (Set four) (Set (number 3 ∷ [])) ≡ Set (number 1 ∷ text_b ∷ Truth true ∷ [])
  -- the least number that {0, 1, 3} has not
  pub free : free_of (Set (number 0 ∷ number 1 ∷ number 3 ∷ [])) ≡ Some (pos 2)
