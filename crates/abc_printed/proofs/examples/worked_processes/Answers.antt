use Rattle.abc_printed.proofs.Worked.{processes}
use Rattle.abc_printed.proofs.examples.worked_processes.Goals as goal

pub returns : goal.returns
returns c = processes
