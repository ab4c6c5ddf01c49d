-- What the tokens of a text stand for.
use Rattle.std.specs.Prelude.{ℕ, List, map, drop, Option, Some, None}
use Rattle.abc_pred.specs.declared.names.Name.{Name}
use Rattle.abc_text.specs.declared.lexical.TokenKind.{TokenKind}
use Rattle.abc_text.specs.declared.lexical.TokenKind.TheVariants.{Word, Variable, Number, Text, Symbol}
use Rattle.abc_text.specs.declared.lexical.Token.{Token}
use Rattle.abc_text.specs.Meanings.{spelling, number_of, text_at, number_in}
use Rattle.abc_grammar.specs.declared.lexemes.Lexeme.{Lexeme}
use Rattle.abc_grammar.specs.declared.lexemes.Lexeme.TheVariants as l
use Rattle.abc_text.specs.declared.words.Mark.{Mark}
use Rattle.abc_text.specs.declared.words.Mark.TheVariants as m
use Rattle.abc_text.specs.declared.words.Keyword.{Keyword}
use Rattle.abc_text.specs.Words.{keyword_at, mark_at}

-- ---- what a token stands for
-- Names have numbers: `words` has each word at its number.
abbrev pub name_in : List (List ℕ) → List ℕ → Name
name_in words word = record { 0 = number_in words word }

-- A word that is no keyword is a name.
abbrev pub word_lexeme : List (List ℕ) → List ℕ → Option Keyword → Lexeme
word_lexeme words word (Some k) = l.Keyword k
word_lexeme words word None = l.Name (name_in words word)

-- Each symbol of a text is one of the marks (the law WordsAreSpelled of abc_text), so the second case is never met.
abbrev pub symbol_lexeme : Option Mark → Lexeme
symbol_lexeme (Some m) = l.Mark m
symbol_lexeme None = l.Mark m.Becomes

abbrev pub lexeme_by : List (List ℕ) → List ℕ → Token → TokenKind → Lexeme
lexeme_by words bytes t Word = word_lexeme words (spelling bytes t) (keyword_at (spelling bytes t))
lexeme_by words bytes t Variable = l.Variable (name_in words (drop 1 (spelling bytes t)))
lexeme_by words bytes t Number = l.Number (number_of bytes t)
lexeme_by words bytes t Text = l.Text (text_at bytes t)
lexeme_by words bytes t Symbol = symbol_lexeme (mark_at (spelling bytes t))

abbrev pub lexeme_of : List (List ℕ) → List ℕ → Token → Lexeme
lexeme_of words bytes t = lexeme_by words bytes t t.kind

abbrev pub lexemes_of : List (List ℕ) → List ℕ → List Token → List Lexeme
lexemes_of words bytes ts = map (lexeme_of words bytes) ts

-- the name that a lexeme has
abbrev pub name_of : Lexeme → Option Name
name_of (l.Name n) = Some n
name_of (l.Variable n) = Some n
name_of (l.Keyword k) = None
name_of (l.Mark m) = None
name_of (l.Number n) = None
name_of (l.Text bytes) = None
