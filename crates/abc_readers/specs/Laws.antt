-- Laws of the plain readers, on which the parser's contracts stand.
use Rattle.std.specs.Prelude.{◌≡◌, [], ◌++◌}
use Rattle.abc_cause.specs.declared.Cause.{Cause}
use Rattle.abc_grammar.specs.Literals.{IsLiteral}
use Rattle.abc_grammar.specs.Operands.{IsOperand}
use Rattle.abc_grammar.specs.Exprs.{IsExpr}
use Rattle.abc_grammar.specs.Preds.{IsPred}
use Rattle.abc_grammar.specs.Plain.{PlainProgram}
use Rattle.abc_grammar.specs.Programs.{IsProgram}
use Rattle.abc_reading.specs.Reading.{Read, Cut, Refused}
use Rattle.abc_reading.specs.Exact.{Ends, IsExact, IsLastGood}
use Rattle.abc_readers.specs.Operands.{Tokens, stars, signs, literal, operand}
use Rattle.abc_readers.specs.Exprs.{expr}
use Rattle.abc_readers.specs.Preds.{ands, ors, pred}
use Rattle.abc_readers.specs.Programs.{whole_program}

-- the next token goes on with no operand
pub record EndsOperand (rest : Tokens) : Type 0 where
  pub stars : Ends stars rest
  pub signs : Ends signs rest

-- the next token goes on with no predicate
pub record EndsPred (rest : Tokens) : Type 0 where
  pub operand : EndsOperand rest
  pub ands : Ends ands rest
  pub ors : Ends ors rest

-- what the parser reads as an operand, and where it refuses, is as the grammar says
abbrev pub OperandsAreRead : Type 0
OperandsAreRead = IsExact IsOperand EndsOperand operand

-- and likewise for literals, which end by themselves, and for expressions and predicates
abbrev pub EndsLiteral : Tokens → Type 0
EndsLiteral rest = Unit {0}

abbrev pub LiteralsAreRead : Type 0
LiteralsAreRead = IsExact IsLiteral EndsLiteral literal

abbrev pub ExprsAreRead : Type 0
ExprsAreRead = IsExact IsExpr EndsOperand expr

abbrev pub PredsAreRead : Type 0
PredsAreRead = IsExact IsPred EndsPred pred

-- What is read as a program is one, to the end of the tokens, and what is one is read; where reading is refused, the tokens before
-- begin a program, and the next goes on with none, or where it is the end, they are none.
pub record ProgramsAreRead : Type 0 where
  pub found : (ts us : Tokens) (p : PlainProgram) → whole_program ts ≡ Read p us → (us ≡ []) × IsProgram ts p
  pub cut : (ts us vs : Tokens) (p : PlainProgram) (c : Cause) → whole_program ts ≡ Cut p us c vs → ⊥
  pub refused : (ts vs : Tokens) (c : Cause) → whole_program ts ≡ Refused c vs → (mid : Tokens) × (ts ≡ mid ++ vs) × IsLastGood IsProgram mid vs
  pub whole : (ts : Tokens) (p : PlainProgram) → IsProgram ts p → whole_program ts ≡ Read p []
