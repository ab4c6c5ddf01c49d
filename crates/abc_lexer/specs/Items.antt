-- What the lexer says of a token.
use Rattle.std.specs.Prelude.{◌≡◌, ℕ, ◌+◌, false, List, drop, take, length, Some, None}
use Rattle.abc_text.specs.declared.lexical.TokenKind.{TokenKind}
use Rattle.abc_text.specs.declared.lexical.TokenKind.TheVariants as kind
use Rattle.abc_text.specs.declared.lexical.Before.{Before}
use Rattle.abc_text.specs.declared.lexical.Next.{Next}
use Rattle.abc_text.specs.declared.lexical.Next.TheVariants as n
use Rattle.abc_text.specs.Tokens.{skip, next, decimal, text_value, stands_after, spelled, left, IsNext}
use Rattle.abc_text.specs.Words.{keyword_at, mark_at}
use Rattle.abc_text.specs.Spelling.{IsTextValue}
use Rattle.abc_lexer.specs.declared.step.Item.{Item}
use Rattle.abc_lexer.specs.declared.step.Item.TheVariants.{Keyword, Name, Variable, Number, Text, Mark}
use Rattle.abc_lexer.specs.declared.step.Step.{Step}
use Rattle.abc_lexer.specs.declared.step.Step.TheVariants as step
use Rattle.abc_lexer.specs.declared.lexer.Read.{Read}
use Rattle.abc_lexer.specs.declared.lexer.Found.{Found}
use Rattle.abc_lexer.specs.declared.lexer.Found.TheVariants as found

abbrev pub kind_of : Item → TokenKind
kind_of (Keyword k) = kind.Word
kind_of (Name word) = kind.Word
kind_of (Variable word) = kind.Variable
kind_of (Number n) = kind.Number
kind_of (Text bytes) = kind.Text
kind_of (Mark m) = kind.Symbol

-- a token that is spelled so is this
abbrev pub IsItem : List ℕ → Item → Type 0
IsItem word (Keyword k) = keyword_at word ≡ Some k
IsItem word (Name name) = (keyword_at word ≡ None) × (name.now ≡ word)
IsItem word (Variable name) = name.now ≡ drop 1 word
IsItem word (Number n) = n ≡ decimal word
IsItem word (Text bytes) = (bytes.now ≡ drop 1 word) × IsTextValue (text_value false bytes.now)
IsItem word (Mark m) = mark_at word ≡ Some m

-- what stands at the front of the bytes, and what it is
abbrev pub IsStep : Next → List ℕ → Step → Type 0
IsStep which bytes step.End = which ≡ n.End
IsStep which bytes (step.Bad c) = which ≡ n.Bad c
IsStep which bytes (step.Good item len) = (which ≡ n.Good (kind_of item) len) × IsItem (take len bytes) item

-- The next token of these bytes, which reach to the end of a text of `size` bytes: what it is, what stands before the
-- one behind it, and what is left.
pub record IsReadOf (size : ℕ) (before : Before) (bytes : List ℕ) (r : Read) : Type 0 where
  pub token : IsNext size before bytes r.token
  pub kind : r.token.kind ≡ kind_of r.item
  pub item : IsItem (spelled bytes r.token) r.item
  pub after : r.after ≡ stands_after before r.token.kind (spelled bytes r.token)
  pub left : r.left.now ≡ left bytes r.token

abbrev pub IsFound : ℕ → Before → List ℕ → Found → Type 0
IsFound size before bytes found.End = next before (skip bytes) ≡ n.End
IsFound size before bytes (found.Bad fault) = (next before (skip bytes) ≡ n.Bad fault.cause) × (fault.place + length
    (skip bytes) ≡ size)
IsFound size before bytes (found.Good r) = IsReadOf size before bytes r
