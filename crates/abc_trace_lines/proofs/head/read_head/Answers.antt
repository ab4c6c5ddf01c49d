use Rattle.abc_trace_lines.proofs.HeadLines.{head_not}
use Rattle.abc_trace_lines.proofs.head.read_head.Goals as goal

pub returns-in_default : goal.returns-in_default
returns-in_default c = head_not _ c.in_default.ensures
