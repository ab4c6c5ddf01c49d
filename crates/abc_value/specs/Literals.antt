-- The text of a value, its literal.
use Rattle.std.specs.Prelude.{◌≡◌, ℕ, ◌≤◌, true, false, ◌||◌, ◌==◌, List, [], ◌∷◌, ◌++◌, length, take, flat_map, codes, All, Option, Some, None, if◌then◌else◌}
use Rattle.std.specs.Fmt.{signed_decimal}
use Rattle.abc_value.specs.declared.scalar.Scalar.{Scalar}
use Rattle.abc_value.specs.declared.scalar.Scalar.TheVariants.{Number, Text, Truth}
use Rattle.abc_value.specs.declared.value.Value.{Value}
use Rattle.abc_value.specs.declared.value.Value.TheVariants.{Scalar as One, Set, Nothing}
use Rattle.abc_value.specs.declared.limits.TheConstants.{LONGEST_TEXT}
use Rattle.abc_value.specs.Sets.{IsSet}
use Rattle.abc_value.specs.Text.{IsPrintable}
use Rattle.abc_value.specs.Values.{fits_64}

-- a byte of a text: " is written \" and \ is written \\
abbrev pub escaped : ℕ → List ℕ
escaped b = if b == 34 || b == 92 then 92 ∷ (b ∷ []) else b ∷ []

-- a number is decimal, with - before a negative one and no leading zeros; a text stands in "
abbrev pub scalar_text : Scalar → List ℕ
scalar_text (Number n) = signed_decimal n
scalar_text (Text t) = 34 ∷ (flat_map escaped t ++ 34 ∷ [])
scalar_text (Truth true) = codes "true"
scalar_text (Truth false) = codes "false"

-- a member after the first: a comma, a space and its text
abbrev pub next_text : Scalar → List ℕ
next_text x = 44 ∷ (32 ∷ scalar_text x)

-- members are parted by a comma and a space
abbrev pub members_text : List Scalar → List ℕ
members_text [] = []
members_text (x ∷ xs) = scalar_text x ++ flat_map next_text xs

-- a set stands in { and }
abbrev pub literal : Value → List ℕ
literal (One x) = scalar_text x
literal (Set s) = 123 ∷ (members_text s ++ 125 ∷ [])
literal Nothing = codes "none"

-- ---- which values there are: numbers of 64 bits, texts of printable bytes that are not too long, sets
abbrev pub IsScalar : Scalar → Type 0
IsScalar (Number n) = fits_64 n ≡ true
IsScalar (Text t) = (length t ≤ LONGEST_TEXT) × All IsPrintable t
IsScalar (Truth b) = Unit {0}

abbrev pub IsValue : Value → Type 0
IsValue (One x) = IsScalar x
IsValue (Set s) = IsSet s × All IsScalar s
IsValue Nothing = Unit {0}

-- ---- reading
-- the bytes begin with a text
abbrev pub BeginsWith : List ℕ → List ℕ → Type 0
BeginsWith bytes text = (rest : List ℕ) × (bytes ≡ text ++ rest)

-- the first n bytes are the literal of v, and no longer front is a literal
pub record IsLongest (bytes : List ℕ) (v : Value) (n : ℕ) : Type 0 where
  pub is_value : IsValue v
  pub within : n ≤ length bytes
  pub front : take n bytes ≡ literal v
  pub longest : (w : Value) → IsValue w → BeginsWith bytes (literal w) → length (literal w) ≤ n

-- no front of the bytes is a literal
abbrev pub HasNoLiteral : List ℕ → Type 0
HasNoLiteral bytes = (w : Value) → IsValue w → ¬ (BeginsWith bytes (literal w))

-- a front of the bytes is a literal
abbrev pub HasLiteral : List ℕ → Type 0
HasLiteral bytes = (w : Value) × (IsValue w × BeginsWith bytes (literal w))

-- what is read of the bytes without memory: the longest literal, or none where no front is one
abbrev pub ReadsValue : List ℕ → Option (Value × ℕ) → Type 0
ReadsValue bytes None = HasNoLiteral bytes
ReadsValue bytes (Some r) = IsLongest bytes r.0 r.1
