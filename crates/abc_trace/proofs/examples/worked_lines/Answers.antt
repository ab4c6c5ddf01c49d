use Rattle.abc_trace.proofs.Worked.{lines}
use Rattle.abc_trace.proofs.examples.worked_lines.Goals as goal

pub returns : goal.returns
returns c = lines
