use Rattle.abc_trace_lines.proofs.SaidLines.{multicast_not_values, multicast_not_at, multicast_not_sent, multicast_is}
use Rattle.abc_trace_lines.proofs.said.read_multicast.Goals as goal

pub returns-in_default : goal.returns-in_default
returns-in_default c = multicast_not_values _ _ (rw c.in_default.is at c.in_ok-values.ensures)

pub returns-in_default-behind : goal.returns-in_default-behind
returns-in_default-behind c =
    multicast_not_at _ _ _ _ (rw c.in-Some.is at c.in_ok-values.ensures) c.in_default-behind.ensures

pub returns-in_default-2 : goal.returns-in_default-2
returns-in_default-2 c =
    multicast_not_sent _ _ _ _ _ (rw c.in-Some.is at c.in_ok-values.ensures)
    c.in-Some-behind.ensures
    (rw c.in_default-2.is at c.in_ok-pred.ensures)

pub returns : goal.returns
returns c =
    multicast_is _ _ _ _ (rw c.in-Some.is at c.in_ok-values.ensures) c.in-Some-behind.ensures
    (rw c.in-Some-2.is at c.in_ok-pred.ensures)
