use Rattle.std.proofs.Common.{Err, Ok}
use Rattle.abc_trace_order.specs.declared.refusal.TraceRefusal.TheVariants as refusal
use Rattle.abc_trace_order.proofs.Exact.{answers}
use Rattle.abc_trace_order.proofs.Growth.{none_of}
use Rattle.abc_trace_reader.proofs.Onward.{end_refused, end_read}
use Rattle.abc_trace_reader.proofs.Stepping.{is_none, is_some_item}
use Rattle.abc_trace_reader.proofs.read.read_trace.Goals as goal

pub returns-in-Err-clause-exact : goal.returns-in-Err-clause-exact
returns-in-Err-clause-exact c = answers c.args.bytes.now (Err c.in-Err.refusal) tt c.in-Err.ensures.refused

pub returns-in-Err-read_lines-clause-exact : goal.returns-in-Err-read_lines-clause-exact
returns-in-Err-read_lines-clause-exact c = answers c.args.bytes.now (Err c.in-Err-read_lines.refusal) tt c.in-Err-read_lines.ensures.refused

pub returns-then-not-is_empty-clause-refused : goal.returns-then-not-is_empty-clause-refused
returns-then-not-is_empty-clause-refused c =
    end_refused c.lines_are_one.ensures c.args.bytes.now c.in-Ok-read_lines.rest.now c.read_lines.new.reading c.place_of.result c.in-Ok-read_lines.ensures.read
    (is_some_item c.in-Ok-read_lines.rest.now c.is_empty.result c.is_empty.ensures c.if-not-is_empty.true) c.place_of.ensures

pub returns-then-not-is_empty-clause-exact : goal.returns-then-not-is_empty-clause-exact
returns-then-not-is_empty-clause-exact c =
    answers c.args.bytes.now (Err (refusal.BadLine c.place_of.result)) tt
    (end_refused c.lines_are_one.ensures c.args.bytes.now c.in-Ok-read_lines.rest.now c.read_lines.new.reading c.place_of.result c.in-Ok-read_lines.ensures.read
    (is_some_item c.in-Ok-read_lines.rest.now c.is_empty.result c.is_empty.ensures c.if-not-is_empty.true) c.place_of.ensures)

pub returns-in-Ok-finish-clause-exact : goal.returns-in-Ok-finish-clause-exact
returns-in-Ok-finish-clause-exact c =
    answers c.args.bytes.now (Ok c.in-Ok-finish.trace)
    (end_read c.args.bytes.now c.in-Ok-read_lines.rest.now c.read_lines.new.reading c.in-Ok-finish.trace c.in-Ok-read_lines.ensures.read
    (none_of c.in-Ok-read_lines.rest.now (is_none c.in-Ok-read_lines.rest.now c.is_empty.result c.is_empty.ensures c.if-not-is_empty.false)) c.in-Ok-finish.ensures) tt
