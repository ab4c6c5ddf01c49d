use Rattle.abc_trace_reader.proofs.Stepping.{number_early}
use Rattle.abc_trace_reader.proofs.read.read_head.Goals as goal

pub returns-in-Some-Number : goal.returns-in-Some-Number
returns-in-Some-Number c =
    number_early c.lines_are_one.ensures c.args.line.now c.in_ok-read_line.field-0 c.in_ok-read_line.ensures _ c.in-Some-Number.is _ _ _
    c.in-Some-Number.field-0-is
