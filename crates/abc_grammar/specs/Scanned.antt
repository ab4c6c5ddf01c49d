-- A text as its tokens up to the end or the first bad one, and what they stand for.
use Rattle.std.specs.Prelude.{◌≡◌, ℕ, List, Option}
use Rattle.abc_text.specs.declared.lexical.Token.{Token}
use Rattle.abc_text.specs.declared.lexical.Fault.{Fault}
use Rattle.abc_text.specs.Tokens.{Reads}
use Rattle.abc_text.specs.Meanings.{names_behind}
use Rattle.abc_grammar.specs.declared.lexemes.Lexeme.{Lexeme}
use Rattle.abc_grammar.specs.Lexemes.{lexemes_of}

-- where these words have numbers before
pub record IsScanned (words : List (List ℕ)) (bytes : List ℕ) (ts : List Token) (fault : Option Fault) (ls : List Lexeme) : Type 0 where
  pub read : Reads bytes ts fault
  pub meant : ls ≡ lexemes_of (names_behind words bytes ts) bytes ts
