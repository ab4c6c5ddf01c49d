use Rattle.abc_trace_laws.proofs.Worked.{renumbering}
use Rattle.abc_trace_laws.proofs.examples.worked_renumbering.Goals as goal

pub returns : goal.returns
returns c = renumbering
