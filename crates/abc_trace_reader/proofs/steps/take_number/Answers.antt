use Rattle.std.proofs.Common.{Bool, subst}
use Rattle.abc_trace_lines.specs.Reading.{plain_tail}
use Rattle.abc_trace_order.specs.Reading.{MayBeNumber, IsReadLine}
use Rattle.abc_trace_order.proofs.Growth.{number_grows}
use Rattle.abc_trace_order.proofs.Refusing.{number_comes}
use Rattle.abc_trace_reader.proofs.Stepping.{number_late, number_wrong, refuted, confirmed}
use Rattle.abc_trace_reader.proofs.steps.take_number.Goals as goal

pub returns-then-not-may_be_number : goal.returns-then-not-may_be_number
returns-then-not-may_be_number c =
    number_late c.lines_are_one.ensures c.args.reading.now c.requires.read c.args.number c.args.sender.now c.args.said c.requires.spelled
    (subst (λ (b : Bool). ¬ MayBeNumber c.args.reading.now c.args.number b) c.is_some.ensures
    (refuted c.may_be_number.result c.may_be_number.ensures c.if-not-may_be_number.true))

pub returns-in-None : goal.returns-in-None
returns-in-None c =
    number_wrong c.lines_are_one.ensures c.args.reading.now c.args.number c.args.sender.now (plain_tail c.args.said) c.requires.spelled
    (subst (IsReadLine c.args.reading.now.names c.args.sender.now (plain_tail c.args.said) c.read_number.new.names) c.in-None.is
    c.in_ok-read_number.ensures)

pub returns-in_ok-push-in-Some : goal.returns-in_ok-push-in-Some
returns-in_ok-push-in-Some c =
    number_grows c.preds_stay.ensures c.args.reading.now c.requires.read c.args.number c.args.sender.now (plain_tail c.args.said)
    c.read_number.new.names c.in-Some.line c.push.new.self
    (number_comes c.args.reading.now c.args.number c.args.said
    (subst (λ (b : Bool). MayBeNumber c.args.reading.now c.args.number b) c.is_some.ensures
    (confirmed c.may_be_number.result c.may_be_number.ensures c.if-not-may_be_number.false)))
    (subst (IsReadLine c.args.reading.now.names c.args.sender.now (plain_tail c.args.said) c.read_number.new.names) c.in-Some.is
    c.in_ok-read_number.ensures)
    c.in_ok-push-in-Some.ensures.ok
