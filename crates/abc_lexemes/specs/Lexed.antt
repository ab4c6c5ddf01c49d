-- A text that was read: its tokens, what they stand for, and the words that have numbers.
use Rattle.std.specs.Prelude.{◌≡◌, ℕ, ◌+◌, false, List, max, fold}
use Rattle.std.specs.Option.{option_map_or}
use Rattle.abc_text.specs.declared.lexical.Token.{Token}
use Rattle.abc_text.specs.Tokens.{text_value}
use Rattle.abc_text.specs.Meanings.{spelling, named, with_named, names_behind}
use Rattle.abc_text.specs.Spelling.{IsTextValue}
use Rattle.abc_lexer.specs.declared.step.Item.{Item}
use Rattle.abc_lexer.specs.declared.step.Item.TheVariants.{Text}
use Rattle.abc_lexer.specs.Items.{kind_of, IsItem}
use Rattle.abc_grammar.specs.declared.lexemes.Lexeme.{Lexeme}
use Rattle.abc_grammar.specs.Lexemes.{lexeme_of, name_of}
use Rattle.abc_grammar.specs.Scanned.{IsScanned}
use Rattle.abc_lexemes.specs.declared.lexed.Lexed.{Lexed}

-- where these words have numbers before
pub record IsLexed (words : List (List ℕ)) (bytes : List ℕ) (l : Lexed) : Type 0 where
  pub scanned : IsScanned words bytes l.tokens l.fault l.lexemes
  pub names : l.names ≡ names_behind words bytes l.tokens

-- ---- one token
-- what stands in a text's quotes fits a text
abbrev pub HasText : Item → Type 0
HasText (Text bytes) = IsTextValue (text_value false bytes.now)
HasText _ = Unit {0}

-- A token that is this stands for x, where these words had numbers before it and those have them behind it.
abbrev pub IsMeant : List (List ℕ) → List (List ℕ) → Item → Lexeme → Type 0
IsMeant old new item x =
    (bytes : List ℕ) (t : Token) → t.kind ≡ kind_of item → IsItem (spelling bytes t) item →
    (x ≡ lexeme_of new bytes t) × (new ≡ with_named old (named bytes t))

-- ---- how many words have numbers
-- where so many had numbers before, and behind them these lexemes stand
abbrev pub named_end : Lexeme → ℕ
named_end x = option_map_or (λ n. n.0 + 1) (name_of x) 0

abbrev pub most_named : ℕ → List Lexeme → ℕ
most_named known xs = fold (λ most x. max most (named_end x)) known xs
