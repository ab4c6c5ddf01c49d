use Rattle.abc_trace_lines.proofs.SaidLines.{tail_not_colon, tail_not_said, tail_some}
use Rattle.abc_trace_lines.proofs.said.read_tail.Goals as goal

pub returns-in_default : goal.returns-in_default
returns-in_default c = tail_not_colon _ c.if-is_text.ensures c.in_default.ensures

pub returns-in_default-2 : goal.returns-in_default-2
returns-in_default-2 c =
    tail_not_said _ _ c.if-is_text.ensures c.in-Some.ensures
    (rw c.in_default-2.is at c.in_ok-said.ensures)

pub returns : goal.returns
returns c = tail_some _ _ _ c.in-Some.ensures (rw c.in-Some-2.is at c.in_ok-said.ensures)
