use Rattle.std.proofs.Common.{arith}
use Rattle.abc_trace_lines.proofs.SaidLines.{close_never}
use Rattle.abc_trace_lines.proofs.said.cut_last.Goals as goal

pub returns : goal.returns
returns c = close_never _ c.loop-at.at (omega arith) c.loop-at.invariant.1
