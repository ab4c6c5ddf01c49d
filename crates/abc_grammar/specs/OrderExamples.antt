-- Worked examples of order: what stands first comes first, and each name has its place.
use Rattle.std.specs.Prelude.{◌≡◌, ℕ, List, [], ◌∷◌, ◌++◌, codes, Some, None, pos}
use Rattle.abc_value.specs.declared.scalar.Scalar.TheVariants as s
use Rattle.abc_value.specs.declared.value.Value.{Value}
use Rattle.abc_value.specs.declared.value.Value.TheVariants as v
use Rattle.abc_pred.specs.Terms as t
use Rattle.abc_term.specs.Processes as P
use Rattle.abc_text.specs.declared.lexical.TokenKind.TheVariants.{Word, Number, Symbol}
use Rattle.abc_text.specs.declared.lexical.Token.{Token}
use Rattle.abc_text.specs.Meanings.{names_of}
use Rattle.abc_checks.specs.declared.causes.Site.TheVariants.{Definition, Component, Whole}
use Rattle.abc_grammar.specs.declared.lexemes.Lexeme.{Lexeme}
use Rattle.abc_grammar.specs.declared.lexemes.Lexeme.TheVariants as l
use Rattle.abc_text.specs.declared.words.Mark.TheVariants as m
use Rattle.abc_text.specs.declared.words.Keyword.TheVariants as k
use Rattle.abc_grammar.specs.Lexemes.{lexemes_of}
use Rattle.abc_grammar.specs.Plain.{PlainComponent}
use Rattle.abc_grammar.specs.Programs.{IsProgram}
use Rattle.abc_grammar.specs.Accepted.{site_place}
use Rattle.abc_grammar.specs.Examples.{name, token, a, b, K, number, attr_a}

abbrev pub number_value : ℕ → Value
number_value n = v.Scalar (s.Number (pos n))

abbrev pub attr_b : t.Operand
attr_b = t.Attr (name 1)

-- ---- two of each: definitions, components, first values, shown attributes, variables, expressions, updates
-- `def K = 0; def b = K;`
abbrev pub two_definitions : List Lexeme
two_definitions =
    l.Keyword k.Def ∷ K ∷ l.Mark m.Equal ∷ l.Number 0 ∷ l.Mark m.Semicolon ∷ l.Keyword k.Def ∷ b ∷ l.Mark m.Equal ∷ K ∷ l.Mark m.Semicolon ∷ []

-- `comp a { a = 1; b = 2; show a, b; run ? (tt) ($a, $b) . 0; }`
abbrev pub first_component : List Lexeme
first_component =
    l.Keyword k.Comp ∷ a ∷ l.Mark m.OpenCurly ∷ a ∷ l.Mark m.Equal ∷ l.Number 1 ∷ l.Mark m.Semicolon ∷ b ∷ l.Mark m.Equal ∷ l.Number 2 ∷ l.Mark
    m.Semicolon
    ∷ l.Keyword k.Show ∷ a ∷ l.Mark m.Comma ∷ b ∷ l.Mark m.Semicolon ∷ l.Keyword k.Run ∷ l.Mark m.Question ∷ l.Mark m.OpenRound ∷ l.Keyword k.Tt
    ∷ l.Mark m.CloseRound ∷ l.Mark m.OpenRound ∷ l.Variable (name 0) ∷ l.Mark m.Comma ∷ l.Variable (name 1) ∷ l.Mark m.CloseRound ∷ l.Mark m.Dot
    ∷ l.Number 0 ∷ l.Mark m.Semicolon ∷ l.Mark m.CloseCurly ∷ []

-- `comp b { show; run (a, b) @ (tt) . [a := 1] [b := 2] 0; }`
abbrev pub second_component : List Lexeme
second_component =
    l.Keyword k.Comp ∷ b ∷ l.Mark m.OpenCurly ∷ l.Keyword k.Show ∷ l.Mark m.Semicolon ∷ l.Keyword k.Run ∷ l.Mark m.OpenRound ∷ a ∷ l.Mark m.Comma ∷ b
    ∷ l.Mark m.CloseRound ∷ l.Mark m.At ∷ l.Mark m.OpenRound ∷ l.Keyword k.Tt ∷ l.Mark m.CloseRound ∷ l.Mark m.Dot
    ∷ l.Mark m.OpenSquare ∷ a ∷ l.Mark m.Becomes ∷ l.Number 1 ∷ l.Mark m.CloseSquare ∷ l.Mark m.OpenSquare ∷ b ∷ l.Mark m.Becomes ∷ l.Number
    2 ∷ l.Mark m.CloseSquare
    ∷ l.Number 0 ∷ l.Mark m.Semicolon ∷ l.Mark m.CloseCurly ∷ []

abbrev pub hearer : PlainComponent
hearer = record {
  name = name 0;
  initial = (name 0, number_value 1) ∷ (name 1, number_value 2) ∷ [];
  show = name 0 ∷ name 1 ∷ [];
  run = P.Input t.True (name 0 ∷ name 1 ∷ []) [] P.Nil;
}

abbrev pub speaker : PlainComponent
speaker = record {
  name = name 1;
  initial = [];
  show = [];
  run = P.Output (t.Plain attr_a ∷ t.Plain attr_b ∷ []) t.True ((name 0, t.Plain (number 1)) ∷ (name 1, t.Plain (number 2)) ∷ []) P.Nil;
}

abbrev pub TwoOfEach : Type 0
TwoOfEach =
    IsProgram (l.Keyword k.Abc ∷ l.Number 1 ∷ l.Mark m.Semicolon ∷ two_definitions ++ (first_component ++ second_component))
    (record { definitions = (name 2, P.Nil) ∷ (name 1, P.Call (name 2)) ∷ []; components = hearer ∷ speaker ∷ [] })

-- ---- places of names
abbrev pub four_names : List ℕ
four_names = codes "abc 1; def A = 0; def B = 0; comp a { show; run 0; } comp b { show; run 0; }"

abbrev pub four_tokens : List Token
four_tokens =
    token Word 0 3 ∷ token Number 4 1 ∷ token Symbol 5 1 ∷ token Word 7 3 ∷ token Word 11 1 ∷ token Symbol 13 1 ∷ token Number 15 1
    ∷ token Symbol 16 1 ∷ token Word 18 3 ∷ token Word 22 1 ∷ token Symbol 24 1 ∷ token Number 26 1 ∷ token Symbol 27 1 ∷ token Word 29 4
    ∷ token Word 34 1 ∷ token Symbol 36 1 ∷ token Word 38 4 ∷ token Symbol 42 1 ∷ token Word 44 3 ∷ token Number 48 1 ∷ token Symbol 49 1
    ∷ token Symbol 51 1 ∷ token Word 53 4 ∷ token Word 58 1 ∷ token Symbol 60 1 ∷ token Word 62 4 ∷ token Symbol 66 1 ∷ token Word 68 3
    ∷ token Number 72 1 ∷ token Symbol 73 1 ∷ token Symbol 75 1 ∷ []

abbrev pub four_lexemes : List Lexeme
four_lexemes =
    l.Keyword k.Abc ∷ l.Number 1 ∷ l.Mark m.Semicolon ∷ l.Keyword k.Def ∷ l.Name (name 0) ∷ l.Mark m.Equal ∷ l.Number 0 ∷ l.Mark m.Semicolon
    ∷ l.Keyword k.Def ∷ l.Name (name 1) ∷ l.Mark m.Equal ∷ l.Number 0 ∷ l.Mark m.Semicolon ∷ l.Keyword k.Comp ∷ l.Name (name 2)
    ∷ l.Mark m.OpenCurly ∷ l.Keyword k.Show ∷ l.Mark m.Semicolon ∷ l.Keyword k.Run ∷ l.Number 0 ∷ l.Mark m.Semicolon ∷ l.Mark m.CloseCurly
    ∷ l.Keyword k.Comp ∷ l.Name (name 3) ∷ l.Mark m.OpenCurly ∷ l.Keyword k.Show ∷ l.Mark m.Semicolon ∷ l.Keyword k.Run ∷ l.Number 0
    ∷ l.Mark m.Semicolon ∷ l.Mark m.CloseCurly ∷ []

pub record NamePlaces : Type 0 where
  pub meant : lexemes_of (names_of four_names four_tokens) four_names four_tokens ≡ four_lexemes
  pub definition : site_place four_lexemes four_tokens 76 (Definition 0) ≡ Some 11
  pub next_definition : site_place four_lexemes four_tokens 76 (Definition 1) ≡ Some 22
  pub no_definition : site_place four_lexemes four_tokens 76 (Definition 2) ≡ None
  pub component : site_place four_lexemes four_tokens 76 (Component 0) ≡ Some 34
  pub next_component : site_place four_lexemes four_tokens 76 (Component 1) ≡ Some 58
  pub no_component : site_place four_lexemes four_tokens 76 (Component 2) ≡ None
  pub whole : site_place four_lexemes four_tokens 76 Whole ≡ Some 76
