use Rattle.abc_trace_lines.proofs.SaidLines.{line_not_number, line_not_name, line_not_tail, line_is}
use Rattle.abc_trace_lines.proofs.said.read_number.Goals as goal

pub returns-in_default : goal.returns-in_default
returns-in_default c = line_not_number _ c.in_default.ensures

pub returns-in_default-name : goal.returns-in_default-name
returns-in_default-name c = line_not_name _ _ _ c.in-Some.ensures c.in_default-name.ensures

pub returns-in_default-2 : goal.returns-in_default-2
returns-in_default-2 c =
    line_not_tail _ _ _ _ _ c.in-Some.ensures c.in-Some-name.ensures
    (rw c.in_default-2.is at c.in_ok-said.ensures)

pub returns : goal.returns
returns c =
    line_is _ _ _ _ _ _ c.in-Some.ensures c.in-Some-name.ensures
    (rw c.in-Some-2.is at c.in_ok-said.ensures)
