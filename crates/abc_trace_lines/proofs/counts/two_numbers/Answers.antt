use Rattle.abc_trace_lines.proofs.CountLines.{two_not_second}
use Rattle.abc_trace_lines.proofs.counts.two_numbers.Goals as goal

pub returns-in_default-whole_number : goal.returns-in_default-whole_number
returns-in_default-whole_number c =
    two_not_second _ _ _ c.in-Some.ensures c.in_default-whole_number.ensures
