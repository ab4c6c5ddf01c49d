use Rattle.std.proofs.Common.{subst}
use Rattle.abc_trace_order.specs.Reading.{IsFirst}
use Rattle.abc_trace_reader.proofs.Onward.{first_none, first_refused}
use Rattle.abc_trace_reader.proofs.read.read_first.Goals as goal

pub returns-in-Err-clause-refused : goal.returns-in-Err-clause-refused
returns-in-Err-clause-refused c =
    first_none c.lines_are_one.ensures c.preds_stay.ensures c.args.bytes.now c.in-Err.refusal c.in-Err.ensures.err

pub returns-in-Ok-None-clause-refused : goal.returns-in-Ok-None-clause-refused
returns-in-Ok-None-clause-refused c =
    first_refused c.lines_are_one.ensures c.preds_stay.ensures c.args.bytes.now c.in-Ok.split.0.now c.in-Ok.split.1.now c.in-Ok.ensures.ok.0
    c.in-Ok.ensures.ok.1 (subst (IsFirst c.in-Ok.split.0.now) c.in-Ok-None.field-0-is c.in-Ok-None.ensures)
