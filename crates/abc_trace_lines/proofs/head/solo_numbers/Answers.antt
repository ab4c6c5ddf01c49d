use Rattle.abc_trace_lines.proofs.HeadLines.{solo_wrong}
use Rattle.abc_trace_lines.proofs.head.solo_numbers.Goals as goal

pub returns-else-are_solo : goal.returns-else-are_solo
returns-else-are_solo c = solo_wrong _ _ _ c.in-Some.ensures c.if-are_solo.ensures
