-- What a token stands for, and how names are numbered.
use Rattle.std.specs.Prelude.{◌≡◌, ℕ, ◌+◌, ◌≤◌, Bool, true, false, if◌then◌else◌, List, [], ◌∷◌, ◌++◌, length, take, drop, fold, Option, Some, None}
use Rattle.std.specs.List.{list_any, position_or_len}
use Rattle.std.specs.Str.{bytes_eq}
use Rattle.abc_text.specs.declared.lexical.TokenKind.{TokenKind}
use Rattle.abc_text.specs.declared.lexical.TokenKind.TheVariants.{Word, Variable, Number, Text, Symbol}
use Rattle.abc_text.specs.declared.lexical.Before.{Before}
use Rattle.abc_text.specs.declared.lexical.Before.TheVariants.{Open}
use Rattle.abc_text.specs.declared.lexical.Next.TheVariants.{Good}
use Rattle.abc_text.specs.declared.lexical.Token.{Token}
use Rattle.abc_text.specs.Tokens.{next, decimal, text_value, is_sign, stands_after}
use Rattle.abc_text.specs.Words.{is_keyword}

-- the bytes of a token of the text
abbrev pub spelling : List ℕ → Token → List ℕ
spelling bytes t = take t.len (drop t.place bytes)

-- The token stands in the text: its bytes do, and alone they are read as this token.
pub record StandsIn (bytes : List ℕ) (t : Token) : Type 0 where
  pub within : t.place + t.len ≤ length bytes
  pub before : Before
  pub alone : next before (spelling bytes t) ≡ Good t.kind t.len

-- the number that a number token writes
abbrev pub number_of : List ℕ → Token → ℕ
number_of bytes t = decimal (spelling bytes t)

-- the bytes that a text token stands for
abbrev pub text_at : List ℕ → Token → List ℕ
text_at bytes t = text_value false (drop 1 (spelling bytes t))

-- ---- signs
-- which tokens of a text are signs, where this stands before the first
abbrev pub signs_from : Before → List ℕ → List Token → List Bool
signs_from before bytes [] = []
signs_from before bytes (t ∷ ts) =
    is_sign before t.kind (spelling bytes t) ∷ signs_from (stands_after before t.kind (spelling bytes t)) bytes ts

abbrev pub token_signs : List ℕ → List Token → List Bool
token_signs bytes ts = signs_from Open bytes ts

-- ---- names
-- The word that a token names: a word that is no keyword, or the word behind a $, keyword or not.
abbrev pub word_of : TokenKind → List ℕ → Option (List ℕ)
word_of Word word = if is_keyword word then None else Some word
word_of Variable word = Some (drop 1 word)
word_of Number word = None
word_of Text word = None
word_of Symbol word = None

abbrev pub named : List ℕ → Token → Option (List ℕ)
named bytes t = word_of t.kind (spelling bytes t)

-- ---- numbers of names
-- Words that have numbers are kept in a list, each at its number. A new word goes to the end.
abbrev pub has_word : List (List ℕ) → List ℕ → Bool
has_word words word = list_any (bytes_eq word) words

abbrev pub with_word : List (List ℕ) → List ℕ → List (List ℕ)
with_word words word = if has_word words word then words else words ++ word ∷ []

-- the number of a word that has one
abbrev pub number_in : List (List ℕ) → List ℕ → ℕ
number_in words word = position_or_len (bytes_eq word) words

abbrev pub with_named : List (List ℕ) → Option (List ℕ) → List (List ℕ)
with_named words None = words
with_named words (Some word) = with_word words word

-- The words that have numbers once these tokens have been read, where `words` had numbers before: whatever the tokens
-- name, each once, in the order in which they are first met.
abbrev pub names_behind : List (List ℕ) → List ℕ → List Token → List (List ℕ)
names_behind words bytes ts = fold (λ known t. with_named known (named bytes t)) words ts

-- the words of a whole text, where no word has a number before
abbrev pub names_of : List ℕ → List Token → List (List ℕ)
names_of bytes ts = names_behind [] bytes ts

-- the word that a token names, if it names one, has a number
abbrev pub HasName : List (List ℕ) → Option (List ℕ) → Type 0
HasName words None = Unit {0}
HasName words (Some word) = has_word words word ≡ true

-- none of these words is known, and they are different
abbrev pub AreNew : List (List ℕ) → List (List ℕ) → Type 0
AreNew known [] = Unit {0}
AreNew known (w ∷ ws) = (has_word known w ≡ false) × AreNew (known ++ w ∷ []) ws

-- words that have numbers are different
abbrev pub AreDifferent : List (List ℕ) → Type 0
AreDifferent words = AreNew [] words
