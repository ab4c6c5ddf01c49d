use Rattle.abc_trace_order.specs.Reading.{stage_of}
use Rattle.abc_trace_reader.proofs.Stepping.{first_late}
use Rattle.abc_trace_reader.proofs.steps.take_line.Goals as goal

pub returns-in-Some-First : goal.returns-in-Some-First
returns-in-Some-First c =
    first_late c.lines_are_one.ensures (stage_of c.args.reading.now) c.args.line.now c.in_ok-read_line.field-0 c.in_ok-read_line.ensures
    c.in-Some-First.field-0 c.in-Some-First.is c.in-Some-First.field-0-0 c.in-Some-First.field-0-is (λ admits. admits)
