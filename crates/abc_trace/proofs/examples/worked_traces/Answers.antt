use Rattle.abc_trace.proofs.Worked.{traces}
use Rattle.abc_trace.proofs.examples.worked_traces.Goals as goal

pub returns : goal.returns
returns c = traces
