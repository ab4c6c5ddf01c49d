use Rattle.abc_trace_lines.proofs.SaidLines.{sent_not_arrow, sent_not_heard, sent_is}
use Rattle.abc_trace_lines.proofs.said.read_sent.Goals as goal

pub returns-in_default-behind : goal.returns-in_default-behind
returns-in_default-behind c = sent_not_arrow _ _ _ c.in-Some.ensures c.in_default-behind.ensures

pub returns-in_default-2 : goal.returns-in_default-2
returns-in_default-2 c =
    sent_not_heard _ _ _ _ c.in-Some.ensures c.in-Some-behind.ensures
    (rw c.in_default-2.is at c.in_ok-heard.ensures)

pub returns : goal.returns
returns c =
    sent_is _ _ _ _ _ c.in-Some.ensures c.in-Some-behind.ensures
    (rw c.in-Some-2.is at c.in_ok-heard.ensures)
