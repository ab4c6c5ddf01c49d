use Rattle.abc_grammar.specs.Exprs.{IsExpr}
use Rattle.abc_reading.proofs.Exact.{exact}
use Rattle.abc_readers.specs.Exprs.{expr}
use Rattle.abc_readers.specs.Laws.{EndsOperand}
use Rattle.abc_readers.proofs.ExprReads.{expr_reads}
use Rattle.abc_readers.proofs.ExprWhole.{expr_ends, expr_reach}
use Rattle.abc_readers.proofs.laws.exprs_are_read.Goals as goal

pub returns : goal.returns
returns c = exact IsExpr EndsOperand expr expr_reads (λ ts rest a h stops. expr_ends h rest stops) (λ ts rest a h. expr_reach h rest)
