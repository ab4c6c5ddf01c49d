use Rattle.abc_trace_lines.proofs.OneReading.{lines_one}
use Rattle.abc_trace_lines.proofs.laws.lines_are_one.Goals as goal

pub returns : goal.returns
returns c = lines_one
