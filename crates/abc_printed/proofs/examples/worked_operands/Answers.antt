use Rattle.abc_printed.proofs.Worked.{operands}
use Rattle.abc_printed.proofs.examples.worked_operands.Goals as goal

pub returns : goal.returns
returns c = operands
