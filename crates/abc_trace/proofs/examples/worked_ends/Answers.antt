use Rattle.abc_trace.proofs.Worked.{ends}
use Rattle.abc_trace.proofs.examples.worked_ends.Goals as goal

pub returns : goal.returns
returns c = ends
