-- The bytes of a print are tokens that stand for its lexemes.
use Rattle.std.specs.Prelude.{◌≡◌, ℕ, List, map, All}
use Rattle.abc_pred.specs.Terms.{Pred}
use Rattle.abc_text.specs.declared.lexical.TokenKind.{TokenKind}
use Rattle.abc_text.specs.declared.lexical.TokenKind.TheVariants.{Word, Variable, Number, Text, Symbol}
use Rattle.abc_text.specs.declared.lexical.Token.{Token}
use Rattle.abc_text.specs.Tokens.{AreTokens}
use Rattle.abc_text.specs.Meanings.{spelling}
use Rattle.abc_grammar.specs.declared.lexemes.Lexeme.{Lexeme}
use Rattle.abc_grammar.specs.declared.lexemes.Lexeme.TheVariants as l
use Rattle.abc_grammar.specs.Plain.{PlainProgram}
use Rattle.abc_printed.specs.Parts.{Part, lexemes, spelled, bytes_of}
use Rattle.abc_printed.specs.Forms.{pred_parts, program_parts}
use Rattle.abc_printed.specs.Printable.{PredHasValues, ProgramHasValues, HasWord}

-- the kind of a lexeme's token
abbrev pub kind_of : Lexeme → TokenKind
kind_of (l.Keyword k) = Word
kind_of (l.Mark m) = Symbol
kind_of (l.Name n) = Word
kind_of (l.Variable n) = Variable
kind_of (l.Number n) = Number
kind_of (l.Text bytes) = Text

-- The bytes are tokens to their end, one for each of these lexemes, of its kind and spelled as it is.
pub record AreSpelledTokens (words : List (List ℕ)) (bytes : List ℕ) (ts : List Token)
    (ls : List Lexeme) : Type 0 where
  pub tokens : AreTokens bytes ts
  pub kinds : map (λ t. t.kind) ts ≡ map kind_of ls
  pub spellings : map (spelling bytes) ts ≡ map (spelled words) ls

abbrev pub IsReadAs : List (List ℕ) → List Part → Type 0
IsReadAs words parts =
    (ts : List Token) × AreSpelledTokens words (bytes_of words parts) ts (lexemes parts)

-- where its literals are values and its names have words
pub record PrintsAreRead : Type 0 where
  pub preds :
      (words : List (List ℕ)) (p : Pred) → PredHasValues p →
      All (HasWord words) (lexemes (pred_parts p)) → IsReadAs words (pred_parts p)
  pub programs :
      (words : List (List ℕ)) (p : PlainProgram) → ProgramHasValues p →
      All (HasWord words) (lexemes (program_parts p)) → IsReadAs words (program_parts p)
