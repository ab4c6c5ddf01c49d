use Rattle.abc_run_trace.proofs.Made.{tell_more}
use Rattle.abc_run_trace.proofs.lines.tell_steps.Goals as goal

pub loop-row-preserved : goal.loop-row-preserved
loop-row-preserved c =
    tell_more c.args.program.now c.args.rows.now c.loop-row.row-index c.row-item.result
    c.loop-row.lines c.push.new.self c.in_ok-tell_step.field-0 c.loop-row-test.true c.row-item.is
    c.loop-row.invariant c.in_ok-tell_step.ensures c.in_ok-push.ensures.ok
