use Rattle.abc_trace_lines.proofs.HeadLines.{net_not_two, net_wrong}
use Rattle.abc_trace_lines.proofs.head.net_numbers.Goals as goal

pub returns-in_default-two_numbers : goal.returns-in_default-two_numbers
returns-in_default-two_numbers c =
    net_not_two _ _ _ _ c.in-Some.ensures c.in_default-two_numbers.ensures

pub returns-else-are_net : goal.returns-else-are_net
returns-else-are_net c =
    net_wrong _ _ _ _ _ _ c.in-Some.ensures c.in-Some-two_numbers.ensures c.if-are_net.ensures
