use Rattle.abc_printed.proofs.Worked.{program}
use Rattle.abc_printed.proofs.examples.worked_program.Goals as goal

pub returns : goal.returns
returns c = program
