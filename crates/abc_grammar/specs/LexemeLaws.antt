-- Laws of what tokens stand for.
use Rattle.std.specs.Prelude.{◌≡◌, ℕ, List}
use Rattle.std.specs.Option.{option_map}
use Rattle.abc_text.specs.declared.lexical.Token.{Token}
use Rattle.abc_text.specs.Meanings.{named}
use Rattle.abc_grammar.specs.Lexemes.{name_in, lexeme_of, name_of}

-- a token names what its lexeme names
abbrev pub LexemesAgree : Type 0
LexemesAgree = (words : List (List ℕ)) (bytes : List ℕ) (t : Token) → name_of (lexeme_of words bytes t) ≡ option_map (name_in words) (named bytes t)
