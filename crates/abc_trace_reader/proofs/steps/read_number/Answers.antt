use Rattle.std.proofs.Common.{Option, None, Some, sym, subst}
use Rattle.abc_trace_lines.specs.declared.parts.SaidParts.{SaidParts}
use Rattle.abc_trace_lines.specs.Reading.{plain_said, plain_tail}
use Rattle.abc_trace_order.specs.Reading.{IsReadSaid, IsNumberedLine}
use Rattle.abc_trace_order.proofs.Numbering.{line_silent, line_said}
use Rattle.abc_trace_reader.proofs.Rooms.{word_different}
use Rattle.abc_trace_reader.proofs.steps.read_number.Goals as goal

pub read_said-requires-clause-different : goal.read_said-requires-clause-different
read_said-requires-clause-different c =
    word_different c.args.names.now c.args.sender.now c.number.new.self c.requires.different c.in_ok-number.ensures.names

pub returns-in-None : goal.returns-in-None
returns-in-None c =
    subst (λ (o : Option SaidParts). IsNumberedLine c.args.names.now c.args.sender.now (plain_tail o) c.number.new.self
    (record { sender = record { 0 = c.in_ok-number.field-0 }; said = None })) (sym c.in-None.is)
    (line_silent c.args.names.now c.args.sender.now c.in_ok-number.field-0 c.number.new.self c.requires.sender c.in_ok-number.ensures.number
    c.in_ok-number.ensures.names)

pub returns-in-Some-2 : goal.returns-in-Some-2
returns-in-Some-2 c =
    subst (λ (o : Option SaidParts). IsNumberedLine c.args.names.now c.args.sender.now (plain_tail o) c.read_said.new.names
    (record { sender = record { 0 = c.in_ok-number.field-0 }; said = Some c.in-Some-2.said })) (sym c.in-Some.is)
    (line_said c.args.names.now c.args.sender.now c.in_ok-number.field-0 c.number.new.self (plain_said c.in-Some.parts) c.read_said.new.names
    c.in-Some-2.said c.requires.sender c.in_ok-number.ensures.number c.in_ok-number.ensures.names
    (subst (IsReadSaid c.number.new.self (plain_said c.in-Some.parts) c.read_said.new.names) c.in-Some-2.is c.in_ok-read_said-in-Some.ensures))
