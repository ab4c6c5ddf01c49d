use Rattle.abc_trace_laws.proofs.OneTrace.{traces_are_one as the_law}
use Rattle.abc_trace_laws.proofs.laws.traces_are_one.Goals as goal

pub returns : goal.returns
returns c = the_law
