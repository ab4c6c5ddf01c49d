use Rattle.std.proofs.Common.{subst}
use Rattle.abc_trace_order.specs.declared.reading.Step.{Step}
use Rattle.abc_trace_order.specs.Reading.{IsStep}
use Rattle.abc_trace_reader.proofs.Onward.{none_refused, line_refused}
use Rattle.abc_trace_reader.proofs.read.read_lines.Goals as goal

pub returns-in-Err-clause-refused : goal.returns-in-Err-clause-refused
returns-in-Err-clause-refused c =
    none_refused c.lines_are_one.ensures c.preds_stay.ensures c.args.bytes.now c.lines.rest.now c.lines.reading c.lines.invariant c.in-Err.refusal
    c.in-Err.ensures.err

pub returns-in-Ok-Bad-clause-refused : goal.returns-in-Ok-Bad-clause-refused
returns-in-Ok-Bad-clause-refused c =
    line_refused c.lines_are_one.ensures c.preds_stay.ensures c.args.bytes.now c.lines.rest.now c.lines.reading c.in-Ok.split.0.now
    c.in-Ok.split.1.now c.place_of.result c.lines.invariant c.in-Ok.ensures.ok.0 c.in-Ok.ensures.ok.1
    (subst (λ (s : Step). IsStep c.lines.reading c.in-Ok.split.0.now s c.take_line.new.reading) c.in-Ok-Bad.field-0-is c.in-Ok-Bad.ensures)
    c.place_of.ensures
