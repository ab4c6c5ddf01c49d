-- Each name that a program holds has a number below the number of its names.
use Rattle.std.specs.Prelude.{ℕ, ◌<◌, List, length, All}
use Rattle.abc_pred.specs.declared.names.Name.{Name}
use Rattle.abc_pred.specs.Terms.{Operand, Expr, Pred}
use Rattle.abc_pred.specs.Terms as t
use Rattle.abc_text.specs.declared.lexical.Token.{Token}
use Rattle.abc_term.specs.Processes.{Process, Update}
use Rattle.abc_term.specs.Processes as P
use Rattle.abc_term.specs.declared.terms.Program.{Program}
use Rattle.abc_grammar.specs.Plain.{PlainComponent, PlainProgram, plain_program}
use Rattle.abc_grammar.specs.Accepted.{IsAccepted}

abbrev pub IsBelow : ℕ → Name → Type 0
IsBelow n a = a.0 < n

abbrev pub OperandBelow : ℕ → Operand → Type 0
OperandBelow n (t.Literal v) = Unit {0}
OperandBelow n (t.Attr a) = IsBelow n a
OperandBelow n (t.This a) = IsBelow n a
OperandBelow n (t.Var x) = IsBelow n x
OperandBelow n (t.Add o r) = OperandBelow n o × OperandBelow n r
OperandBelow n (t.Sub o r) = OperandBelow n o × OperandBelow n r
OperandBelow n (t.Mul o r) = OperandBelow n o × OperandBelow n r
OperandBelow n (t.Size o) = OperandBelow n o
OperandBelow n (t.Free o) = OperandBelow n o

abbrev pub ExprBelow : ℕ → Expr → Type 0
ExprBelow n (t.Plain o) = OperandBelow n o
ExprBelow n (t.SetOf os) = All (OperandBelow n) os
ExprBelow n (t.Union e r) = ExprBelow n e × ExprBelow n r
ExprBelow n (t.Without e r) = ExprBelow n e × ExprBelow n r

abbrev pub PredBelow : ℕ → Pred → Type 0
PredBelow n t.True = Unit {0}
PredBelow n t.False = Unit {0}
PredBelow n (t.Same o r) = OperandBelow n o × OperandBelow n r
PredBelow n (t.Less o r) = OperandBelow n o × OperandBelow n r
PredBelow n (t.Member o r) = OperandBelow n o × OperandBelow n r
PredBelow n (t.Not p) = PredBelow n p
PredBelow n (t.And p q) = PredBelow n p × PredBelow n q
PredBelow n (t.Or p q) = PredBelow n p × PredBelow n q

abbrev pub UpdateBelow : ℕ → Update → Type 0
UpdateBelow n u = IsBelow n u.0 × ExprBelow n u.1

abbrev pub ProcessBelow : ℕ → Process → Type 0
ProcessBelow n P.Nil = Unit {0}
ProcessBelow n (P.Output es p us A) = All (ExprBelow n) es × PredBelow n p × All (UpdateBelow n) us × ProcessBelow n A
ProcessBelow n (P.Input p xs us A) = PredBelow n p × All (IsBelow n) xs × All (UpdateBelow n) us × ProcessBelow n A
ProcessBelow n (P.When g A) = PredBelow n g × ProcessBelow n A
ProcessBelow n (P.Choice A B) = ProcessBelow n A × ProcessBelow n B
ProcessBelow n (P.Par A B) = ProcessBelow n A × ProcessBelow n B
ProcessBelow n (P.Call c) = IsBelow n c

abbrev pub DefinitionBelow : ℕ → Name × Process → Type 0
DefinitionBelow n d = IsBelow n d.0 × ProcessBelow n d.1

pub record ComponentBelow (n : ℕ) (C : PlainComponent) : Type 0 where
  pub name : IsBelow n C.name
  pub initial : All (λ x. IsBelow n x.0) C.initial
  pub show : All (IsBelow n) C.show
  pub run : ProcessBelow n C.run

pub record ProgramBelow (n : ℕ) (p : PlainProgram) : Type 0 where
  pub definitions : All (DefinitionBelow n) p.definitions
  pub components : All (ComponentBelow n) p.components

abbrev pub NamesAreNumbered : Type 0
NamesAreNumbered = (bytes : List ℕ) (ts : List Token) (p : Program) → IsAccepted bytes ts p → ProgramBelow (length p.names) (plain_program p)
