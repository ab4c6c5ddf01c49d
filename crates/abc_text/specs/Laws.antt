-- Laws of the tokens of a text.
use Rattle.std.specs.Prelude.{◌≡◌, ℕ, ◌+◌, ◌^◌, ◌<◌, ◌⊎◌, Bool, true, false, List, [], ◌∷◌, ◌++◌, length, Option, Some, All}
use Rattle.std.specs.List.{AllPass}
use Rattle.abc_text.specs.declared.lexical.TokenKind.{TokenKind}
use Rattle.abc_text.specs.declared.lexical.TokenKind.TheVariants.{Word, Variable, Number, Text, Symbol}
use Rattle.abc_text.specs.declared.lexical.Before.{Before}
use Rattle.abc_text.specs.declared.lexical.Before.TheVariants.{Open}
use Rattle.abc_text.specs.declared.lexical.Next.TheVariants.{Good}
use Rattle.abc_text.specs.declared.lexical.Token.{Token}
use Rattle.abc_text.specs.declared.lexical.Fault.{Fault}
use Rattle.abc_text.specs.Tokens.{is_blank, is_word_byte, is_digit, next, stands_after, Reads, AreTokens, IsLexical}
use Rattle.abc_text.specs.declared.words.Keyword.{Keyword}
use Rattle.abc_text.specs.declared.words.Mark.{Mark}
use Rattle.abc_text.specs.Words.{keyword_at, mark_at, is_mark, keyword_text, mark_text}
use Rattle.abc_text.specs.Meanings.{spelling, StandsIn, number_of, token_signs, named, names_behind, HasName}

-- ---- one reading
-- A text is tokens to its end, or tokens and then a first bad one; and it is so in one way.
pub record HasOneReading (bytes : List ℕ) : Type 0 where
  pub some : (ts : List Token) × (fault : Option Fault) × Reads bytes ts fault
  pub one : (ts us : List Token) (f g : Option Fault) → Reads bytes ts f → Reads bytes us g → (ts ≡ us) × (f ≡ g)

abbrev pub OneReading : Type 0
OneReading = (bytes : List ℕ) → HasOneReading bytes

-- ---- spelled tokens are read
-- a piece of a text: blanks, and a token's spelling
pub record Piece : Type 0 where
  pub gap : List ℕ
  pub kind : TokenKind
  pub spelling : List ℕ

abbrev pub text_of : List Piece → List ℕ
text_of [] = []
text_of (p ∷ ps) = p.gap ++ (p.spelling ++ text_of ps)

-- the tokens of the pieces, the first of which begins at `place`
abbrev pub tokens_of : ℕ → List Piece → List Token
tokens_of place [] = []
tokens_of place (p ∷ ps) =
    record { kind = p.kind; place = place + length p.gap; len = length p.spelling }
    ∷ tokens_of (place + length p.gap + length p.spelling) ps

-- the bytes don't begin with one that passes the test
abbrev pub Stops : (ℕ → Bool) → List ℕ → Type 0
Stops p [] = Unit {0}
Stops p (b ∷ bs) = p b ≡ false

-- what may follow a token without running into it: no byte of a word, no digit
abbrev pub MayFollow : TokenKind → List ℕ → Type 0
MayFollow Word bytes = Stops is_word_byte bytes
MayFollow Variable bytes = Stops is_word_byte bytes
MayFollow Number bytes = Stops is_digit bytes
MayFollow Text bytes = Unit {0}
MayFollow Symbol bytes = Unit {0}

-- gaps are blank, each spelling alone is its token, and what follows doesn't run into it
abbrev pub AreSpelled : Before → List Piece → Type 0
AreSpelled before [] = Unit {0}
AreSpelled before (p ∷ ps) =
    AllPass is_blank p.gap
    × (next before p.spelling ≡ Good p.kind (length p.spelling))
    × MayFollow p.kind (text_of ps)
    × AreSpelled (stands_after before p.kind p.spelling) ps

-- the tokens of spelled tokens are these tokens
abbrev pub SpelledIsRead : Type 0
SpelledIsRead = (ps : List Piece) → AreSpelled Open ps → AreTokens (text_of ps) (tokens_of 0 ps)

-- ---- tokens stand in their text
-- each token up to the end or the first bad one stands in the text, and alone is read as itself
abbrev pub TokensStand : Type 0
TokensStand = (bytes : List ℕ) (ts : List Token) (fault : Option Fault) → Reads bytes ts fault → All (StandsIn bytes) ts

-- ---- faults
abbrev pub FaultsAreLexical : Type 0
FaultsAreLexical = (bytes : List ℕ) (ts : List Token) (fault : Fault) → Reads bytes ts (Some fault) → IsLexical fault.cause

-- ---- numbers
-- the last of these tokens is a sign
abbrev pub EndsWithSign : List ℕ → List Token → Type 0
EndsWithSign bytes ts = (fs : List Bool) × (token_signs bytes ts ≡ fs ++ true ∷ [])

-- a number of a text is below 2^63, or it is 2^63 and stands right behind a sign
abbrev pub NumbersFit : Type 0
NumbersFit =
    (bytes : List ℕ) (ts : List Token) (fault : Option Fault) → Reads bytes ts fault →
    (front back : List Token) (t : Token) → ts ≡ front ++ t ∷ back → t.kind ≡ Number →
    (number_of bytes t < 2 ^ 63) ⊎ ((number_of bytes t ≡ 2 ^ 63) × EndsWithSign bytes front)

-- ---- names
-- the names of more tokens begin with the names of the first ones, so a number once given stays
abbrev pub NamesStay : Type 0
NamesStay =
    (words : List (List ℕ)) (bytes : List ℕ) (ts us : List Token) →
    (more : List (List ℕ)) × (names_behind words bytes (ts ++ us) ≡ names_behind words bytes ts ++ more)

-- each word that a token names has a number
abbrev pub NamedHaveNumbers : Type 0
NamedHaveNumbers =
    (words : List (List ℕ)) (bytes : List ℕ) (ts : List Token) → All (λ t. HasName (names_behind words bytes ts) (named bytes t)) ts

-- ---- keywords and symbols
pub record WordsAreSpelled : Type 0 where
  -- each keyword and each symbol has one spelling, and is found by it
  pub keyword : (k : Keyword) → keyword_at (keyword_text k) ≡ Some k
  pub keyword_back : (word : List ℕ) (k : Keyword) → keyword_at word ≡ Some k → keyword_text k ≡ word
  pub mark : (m : Mark) → mark_at (mark_text m) ≡ Some m
  pub mark_back : (symbol : List ℕ) (m : Mark) → mark_at symbol ≡ Some m → mark_text m ≡ symbol
  -- each symbol of a text is one of the table
  pub symbols : (bytes : List ℕ) (t : Token) → StandsIn bytes t → t.kind ≡ Symbol → is_mark (spelling bytes t) ≡ true
