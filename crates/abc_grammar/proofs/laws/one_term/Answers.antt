use Rattle.abc_grammar.proofs.OperandRuns.{one_operand}
use Rattle.abc_grammar.proofs.ExprRuns.{one_expr}
use Rattle.abc_grammar.proofs.PredRuns.{one_pred}
use Rattle.abc_grammar.proofs.ProcessRuns.{one_process}
use Rattle.abc_grammar.proofs.ProgramRuns.{one_program}
use Rattle.abc_grammar.proofs.laws.one_term.Goals as goal

pub returns : goal.returns
returns c = record {
  operands = λ ts a b h i. one_operand h i;
  exprs = λ ts a b h i. one_expr h i;
  preds = λ ts a b h i. one_pred h i;
  processes = λ ts A B h i. one_process h i;
  programs = λ ts p q h i. one_program h i;
}
