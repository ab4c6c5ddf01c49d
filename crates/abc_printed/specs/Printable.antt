-- Which terms can be printed so that they are read back: their literals are values, and their
-- names have words.
use Rattle.std.specs.Prelude.{◌≡◌, ℕ, ◌<◌, List, length, All, None}
use Rattle.abc_value.specs.declared.value.Value.{Value}
use Rattle.abc_value.specs.Literals.{IsValue}
use Rattle.abc_pred.specs.declared.names.Name.{Name}
use Rattle.abc_pred.specs.Terms.{Operand, Expr, Pred}
use Rattle.abc_pred.specs.Terms as t
use Rattle.abc_text.specs.Words.{keyword_at}
use Rattle.abc_text.specs.Spelling.{IsWordSpelling}
use Rattle.abc_term.specs.Processes.{Process, Update}
use Rattle.abc_term.specs.Processes as P
use Rattle.abc_grammar.specs.declared.lexemes.Lexeme.{Lexeme}
use Rattle.abc_grammar.specs.declared.lexemes.Lexeme.TheVariants as l
use Rattle.abc_grammar.specs.Plain.{PlainComponent, PlainProgram}
use Rattle.abc_printed.specs.Parts.{word_at}

-- ---- literals
-- Each literal is a value: a number of 64 bits, a text of printable bytes that is not too long, a
-- set in order.
abbrev pub OperandHasValues : Operand → Type 0
OperandHasValues (t.Literal v) = IsValue v
OperandHasValues (t.Attr a) = Unit {0}
OperandHasValues (t.This a) = Unit {0}
OperandHasValues (t.Var x) = Unit {0}
OperandHasValues (t.Add a b) = OperandHasValues a × OperandHasValues b
OperandHasValues (t.Sub a b) = OperandHasValues a × OperandHasValues b
OperandHasValues (t.Mul a b) = OperandHasValues a × OperandHasValues b
OperandHasValues (t.Size a) = OperandHasValues a
OperandHasValues (t.Free a) = OperandHasValues a

abbrev pub ExprHasValues : Expr → Type 0
ExprHasValues (t.Plain a) = OperandHasValues a
ExprHasValues (t.SetOf items) = All OperandHasValues items
ExprHasValues (t.Union a b) = ExprHasValues a × ExprHasValues b
ExprHasValues (t.Without a b) = ExprHasValues a × ExprHasValues b

abbrev pub PredHasValues : Pred → Type 0
PredHasValues t.True = Unit {0}
PredHasValues t.False = Unit {0}
PredHasValues (t.Same a b) = OperandHasValues a × OperandHasValues b
PredHasValues (t.Less a b) = OperandHasValues a × OperandHasValues b
PredHasValues (t.Member a b) = OperandHasValues a × OperandHasValues b
PredHasValues (t.Not p) = PredHasValues p
PredHasValues (t.And p q) = PredHasValues p × PredHasValues q
PredHasValues (t.Or p q) = PredHasValues p × PredHasValues q

abbrev pub UpdateHasValues : Update → Type 0
UpdateHasValues u = ExprHasValues u.1

abbrev pub ProcessHasValues : Process → Type 0
ProcessHasValues P.Nil = Unit {0}
ProcessHasValues (P.Output es p us A) =
    All ExprHasValues es × PredHasValues p × All UpdateHasValues us × ProcessHasValues A
ProcessHasValues (P.Input p xs us A) = PredHasValues p × All UpdateHasValues us × ProcessHasValues A
ProcessHasValues (P.When p A) = PredHasValues p × ProcessHasValues A
ProcessHasValues (P.Choice A B) = ProcessHasValues A × ProcessHasValues B
ProcessHasValues (P.Par A B) = ProcessHasValues A × ProcessHasValues B
ProcessHasValues (P.Call c) = Unit {0}

abbrev pub DefinitionHasValues : Name × Process → Type 0
DefinitionHasValues d = ProcessHasValues d.1

abbrev pub InitialHasValue : Name × Value → Type 0
InitialHasValue x = IsValue x.1

pub record ComponentHasValues (C : PlainComponent) : Type 0 where
  pub initial : All InitialHasValue C.initial
  pub run : ProcessHasValues C.run

pub record ProgramHasValues (p : PlainProgram) : Type 0 where
  pub definitions : All DefinitionHasValues p.definitions
  pub components : All ComponentHasValues p.components

-- ---- names
-- The lexeme's name has a word: a name one that is no keyword, a variable any.
abbrev pub HasWord : List (List ℕ) → Lexeme → Type 0
HasWord words (l.Name n) =
    (n.0 < length words) × IsWordSpelling (word_at words n) × (keyword_at (word_at words n) ≡ None)
HasWord words (l.Variable n) = (n.0 < length words) × IsWordSpelling (word_at words n)
HasWord words (l.Keyword k) = Unit {0}
HasWord words (l.Mark m) = Unit {0}
HasWord words (l.Number n) = Unit {0}
HasWord words (l.Text bytes) = Unit {0}
