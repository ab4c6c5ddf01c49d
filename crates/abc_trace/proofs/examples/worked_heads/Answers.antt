use Rattle.abc_trace.proofs.Worked.{heads}
use Rattle.abc_trace.proofs.examples.worked_heads.Goals as goal

pub returns : goal.returns
returns c = heads
