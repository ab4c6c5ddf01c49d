-- What tokens stand for.
use Rattle.std.proofs.Common.{◌≡◌, ℕ, List, Option, Some, None, refl}
use Rattle.std.specs.Prelude.{is_some, if◌then◌else◌}
use Rattle.std.specs.Option.{option_map}
use Rattle.abc_text.specs.declared.lexical.TokenKind.{TokenKind}
use Rattle.abc_text.specs.declared.lexical.TokenKind.TheVariants.{Word, Variable, Number, Text, Symbol}
use Rattle.abc_text.specs.declared.lexical.Token.{Token}
use Rattle.abc_text.specs.declared.words.Keyword.{Keyword}
use Rattle.abc_text.specs.declared.words.Mark.{Mark}
use Rattle.abc_text.specs.Words.{keyword_at, mark_at}
use Rattle.abc_text.specs.Meanings.{spelling, word_of}
use Rattle.abc_grammar.specs.Lexemes.{name_in, word_lexeme, symbol_lexeme, lexeme_by, name_of}
use Rattle.abc_grammar.specs.LexemeLaws.{LexemesAgree}

word_named : (words : List (List ℕ)) (word : List ℕ) (o : Option Keyword) →
    name_of (word_lexeme words word o) ≡ option_map (name_in words) (if is_some o then None else Some word)
word_named words word (Some k) = refl
word_named words word None = refl

symbol_named : (o : Option Mark) → name_of (symbol_lexeme o) ≡ None
symbol_named (Some m) = refl
symbol_named None = refl

named_by : (words : List (List ℕ)) (bytes : List ℕ) (t : Token) (kind : TokenKind) →
    name_of (lexeme_by words bytes t kind) ≡ option_map (name_in words) (word_of kind (spelling bytes t))
named_by words bytes t Word = word_named words (spelling bytes t) (keyword_at (spelling bytes t))
named_by words bytes t Variable = refl
named_by words bytes t Number = refl
named_by words bytes t Text = refl
named_by words bytes t Symbol = symbol_named (mark_at (spelling bytes t))

pub lexemes_agree : LexemesAgree
lexemes_agree words bytes t = named_by words bytes t t.kind
