use Rattle.abc_trace_reader.proofs.Stepping.{last_late, last_comes, refuted, confirmed}
use Rattle.abc_trace_reader.proofs.steps.last_step.Goals as goal

pub returns-then-may_be_last : goal.returns-then-may_be_last
returns-then-may_be_last c =
    last_comes c.args.reading.now c.requires.read c.args.limited c.args.count
    (confirmed c.may_be_last.result c.may_be_last.ensures c.if-may_be_last.true)

pub returns-else-may_be_last : goal.returns-else-may_be_last
returns-else-may_be_last c =
    last_late c.lines_are_one.ensures c.args.reading.now c.requires.read c.args.limited c.args.count c.requires.spelled
    (refuted c.may_be_last.result c.may_be_last.ensures c.if-may_be_last.false)
