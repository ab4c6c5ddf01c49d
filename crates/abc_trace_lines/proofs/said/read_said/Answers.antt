use Rattle.abc_trace_lines.proofs.SaidLines.{said_not_place, said_not_space, said_not_multicast, said_is}
use Rattle.abc_trace_lines.proofs.said.read_said.Goals as goal

pub returns-in_default : goal.returns-in_default
returns-in_default c = said_not_place _ c.in_default.ensures

pub returns-in_default-behind_mark : goal.returns-in_default-behind_mark
returns-in_default-behind_mark c =
    said_not_space _ _ _ c.in-Some.ensures c.in_default-behind_mark.ensures

pub returns-in_default-2 : goal.returns-in_default-2
returns-in_default-2 c =
    said_not_multicast _ _ _ _ c.in-Some.ensures c.in-Some-behind_mark.ensures
    (rw c.in_default-2.is at c.in_ok-said.ensures)

pub returns : goal.returns
returns c =
    said_is _ _ _ _ _ c.in-Some.ensures c.in-Some-behind_mark.ensures
    (rw c.in-Some-2.is at c.in_ok-said.ensures)
