-- How tokens are spelled so that they are read back.
use Rattle.std.specs.Prelude.{◌≡◌, ℕ, ◌≤◌, ◌<◌, true, false, List, [], ◌∷◌, ◌++◌, length, flat_map}
use Rattle.std.specs.List.{AllPass}
use Rattle.abc_value.specs.Literals.{escaped}
use Rattle.abc_text.specs.declared.lexical.TokenKind.TheVariants.{Word, Variable, Number, Text}
use Rattle.abc_text.specs.declared.lexical.Before.{Before}
use Rattle.abc_text.specs.declared.lexical.Next.TheVariants.{Good}
use Rattle.abc_value.specs.declared.limits.TheConstants.{LONGEST_TEXT}
use Rattle.abc_text.specs.declared.limits.TheConstants.{MOST_NAME}
use Rattle.abc_text.specs.Tokens.{is_letter, is_digit, is_word_byte, is_printable, decimal, greatest, text_value, next}

-- the bytes of a word: letters, digits and _, at most so many
pub record IsWord (word : List ℕ) : Type 0 where
  pub short : length word ≤ MOST_NAME
  pub bytes : AllPass is_word_byte word

-- a letter and then bytes of a word, at most so many in all
abbrev pub IsWordSpelling : List ℕ → Type 0
IsWordSpelling [] = ⊥
IsWordSpelling (b ∷ bs) = (is_letter b ≡ true) × AllPass is_word_byte bs × (length (b ∷ bs) ≤ MOST_NAME)

-- what a text stands for: printable bytes, at most so many
pub record IsTextValue (value : List ℕ) : Type 0 where
  pub short : length value ≤ LONGEST_TEXT
  pub bytes : AllPass is_printable value

-- the text that stands for these bytes
abbrev pub text_spelling : List ℕ → List ℕ
text_spelling value = 34 ∷ (flat_map escaped value ++ 34 ∷ [])

-- Words, variables, numbers and texts are read as spelled, and a text stands for its bytes.
pub record SpellingsAreRead (before : Before) : Type 0 where
  pub word : (w : List ℕ) → IsWordSpelling w → next before w ≡ Good Word (length w)
  pub variable : (w : List ℕ) → IsWordSpelling w → next before (36 ∷ w) ≡ Good Variable (length (36 ∷ w))
  pub number : (ds : List ℕ) → 0 < length ds → AllPass is_digit ds → decimal ds ≤ greatest before → next before ds ≡ Good Number (length ds)
  pub text : (value : List ℕ) → IsTextValue value → next before (text_spelling value) ≡ Good Text (length (text_spelling value))
  pub value : (value : List ℕ) → AllPass is_printable value → text_value false (flat_map escaped value ++ 34 ∷ []) ≡ value

abbrev pub Spellings : Type 0
Spellings = (before : Before) → SpellingsAreRead before
