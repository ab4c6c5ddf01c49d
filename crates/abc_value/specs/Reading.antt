-- What the parts of the reader answer.
use Rattle.std.specs.Prelude.{◌≡◌, ◌≢◌, ◌⊎◌, ℕ, ◌+◌, ◌*◌, ◌^◌, ◌<◌, ◌≤◌, Bool, true, false, List, ◌∷◌, ◌++◌, length, take, flat_map, All, Option, Some, None, slice_index, decimal}
use Rattle.abc_value.specs.declared.scalar.Scalar.{Scalar}
use Rattle.abc_value.specs.declared.quoted.Piece.{Piece}
use Rattle.abc_value.specs.declared.quoted.Piece.TheVariants.{Quote, Byte, Bad}
use Rattle.abc_value.specs.declared.read.Step.{Step}
use Rattle.abc_value.specs.declared.read.Step.TheVariants.{Close, Member, Wrong}
use Rattle.abc_value.specs.Literals.{BeginsWith, IsScalar, scalar_text, next_text, escaped}
use Rattle.abc_value.specs.Text.{IsPrintable}

-- a decimal digit at a place
abbrev pub IsDigitAt : List ℕ → ℕ → ℕ → Type 0
IsDigitAt bytes at d = (d < 10) × (at < length bytes) × (slice_index bytes at ≡ 48 + d)

abbrev pub NoDigitAt : List ℕ → ℕ → Type 0
NoDigitAt bytes at = (d : ℕ) → ¬ (IsDigitAt bytes at d)

-- the number with the digit at a place put after it, up to a most
pub record IsMore (value : ℕ) (bytes : List ℕ) (at most more : ℕ) : Type 0 where
  pub below : more ≤ most
  pub digit : (d : ℕ) × (IsDigitAt bytes at d × (more ≡ value * 10 + d))

abbrev pub NoMore : ℕ → List ℕ → ℕ → ℕ → Type 0
NoMore value bytes at most = (d : ℕ) → IsDigitAt bytes at d → most < value * 10 + d

-- the longest front that is a decimal number of at most `most`
pub record IsDecimalFront (bytes : List ℕ) (most m n : ℕ) : Type 0 where
  pub below : m ≤ most
  pub within : n ≤ length bytes
  pub front : take n bytes ≡ decimal m
  pub longest : (k : ℕ) → k ≤ most → BeginsWith bytes (decimal k) → length (decimal k) ≤ n

abbrev pub NoDecimal : List ℕ → Type 0
NoDecimal bytes = (k : ℕ) → k < 2 ^ 64 → ¬ (BeginsWith bytes (decimal k))

-- the longest front that is a scalar's text
pub record IsScalarFront (bytes : List ℕ) (x : Scalar) (n : ℕ) : Type 0 where
  pub is_scalar : IsScalar x
  pub within : n ≤ length bytes
  pub front : take n bytes ≡ scalar_text x
  pub longest : (y : Scalar) → IsScalar y → BeginsWith bytes (scalar_text y) → length (scalar_text y) ≤ n

abbrev pub NoScalar : List ℕ → Type 0
NoScalar bytes = (y : Scalar) → IsScalar y → ¬ (BeginsWith bytes (scalar_text y))

abbrev pub ReadsScalar : List ℕ → Option (Scalar × ℕ) → Type 0
ReadsScalar bytes None = NoScalar bytes
ReadsScalar bytes (Some r) = IsScalarFront bytes r.0 r.1

-- a byte that is none of those at which the reader goes another way: - " t f
pub record IsNoMark (b : ℕ) : Type 0 where
  pub minus : b ≢ 45
  pub quote : b ≢ 34
  pub letter_t : b ≢ 116
  pub letter_f : b ≢ 102

-- no printable bytes as they are written, and then a quote, stand at the front
abbrev pub NoTextEnd : List ℕ → Type 0
NoTextEnd bytes = (t rest : List ℕ) → All IsPrintable t → ¬ (bytes ≡ flat_map escaped t ++ 34 ∷ rest)

-- what stands next in a text: the closing quote, a byte as it is written in n bytes, or neither
abbrev pub IsPiece : List ℕ → Piece → Type 0
IsPiece bytes Quote = slice_index bytes 0 ≡ 34
IsPiece bytes (Byte b n) = IsPrintable b × (n ≤ length bytes) × (take n bytes ≡ escaped b)
IsPiece bytes Bad = NoTextEnd bytes

-- a member as it is written: the first as it is, another after a comma and a space
abbrev pub entry : Bool → Scalar → List ℕ
entry true x = scalar_text x
entry false x = next_text x

-- after a member stands a comma or the end of the set
abbrev pub IsEntry : Bool → List ℕ → Scalar → Type 0
IsEntry first bytes y = IsScalar y × ((c : ℕ) × (rest : List ℕ) × (((c ≡ 44) ⊎ (c ≡ 125)) × (bytes ≡ entry first y ++ c ∷ rest)))

-- the bytes begin with a member, and with no other that a set goes on after
pub record IsMemberFront (first : Bool) (bytes : List ℕ) (x : Scalar) (n : ℕ) : Type 0 where
  pub is_scalar : IsScalar x
  pub within : n ≤ length bytes
  pub front : take n bytes ≡ entry first x
  pub only : (y : Scalar) → IsEntry first bytes y → y ≡ x
  pub goes_on : slice_index bytes 0 ≢ 125

pub record NoMember (first : Bool) (bytes : List ℕ) : Type 0 where
  pub no_entry : (y : Scalar) → ¬ (IsEntry first bytes y)
  pub goes_on : slice_index bytes 0 ≢ 125

-- what stands next in a set: the end, a member, or neither
abbrev pub IsStep : Bool → List ℕ → Step → Type 0
IsStep first bytes Close = slice_index bytes 0 ≡ 125
IsStep first bytes (Member x n) = IsMemberFront first bytes x n
IsStep first bytes Wrong = NoMember first bytes
