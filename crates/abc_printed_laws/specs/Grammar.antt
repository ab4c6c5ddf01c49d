-- What is printed of a term is of the grammar, with that term.
use Rattle.std.specs.Prelude.{ℕ, List}
use Rattle.abc_pred.specs.Terms.{Operand, Expr, Pred}
use Rattle.abc_term.specs.Processes.{Process}
use Rattle.abc_term.specs.declared.terms.Program.{Program}
use Rattle.abc_text.specs.declared.lexical.Token.{Token}
use Rattle.abc_grammar.specs.Operands.{IsOperand}
use Rattle.abc_grammar.specs.Exprs.{IsExpr}
use Rattle.abc_grammar.specs.Preds.{IsPred}
use Rattle.abc_grammar.specs.Processes.{IsProcess}
use Rattle.abc_grammar.specs.Programs.{IsProgram}
use Rattle.abc_grammar.specs.Plain.{PlainProgram, plain_program}
use Rattle.abc_grammar.specs.Accepted.{IsAccepted}
use Rattle.abc_printed.specs.Parts.{lexemes}
use Rattle.abc_printed.specs.Forms.{operand_parts, expr_parts, pred_parts, process_parts, program_parts}
use Rattle.abc_printed.specs.Printable.{OperandHasValues, ExprHasValues, PredHasValues, ProcessHasValues, ProgramHasValues}

-- where its literals are values
pub record PrintsAreTerms : Type 0 where
  pub operands : (a : Operand) → OperandHasValues a → IsOperand (lexemes (operand_parts a)) a
  pub exprs : (a : Expr) → ExprHasValues a → IsExpr (lexemes (expr_parts a)) a
  pub preds : (p : Pred) → PredHasValues p → IsPred (lexemes (pred_parts p)) p
  pub processes : (A : Process) → ProcessHasValues A → IsProcess (lexemes (process_parts A)) A
  pub programs : (p : PlainProgram) → ProgramHasValues p → IsProgram (lexemes (program_parts p)) p

-- and the literals of an accepted program are
abbrev pub ProgramsHaveValues : Type 0
ProgramsHaveValues = (bytes : List ℕ) (ts : List Token) (p : Program) → IsAccepted bytes ts p →
    ProgramHasValues (plain_program p)
