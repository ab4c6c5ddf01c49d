use Rattle.abc_run_trace.proofs.HaveTraces.{solo_runs_have_traces}
use Rattle.abc_system_bench.proofs.traced.run_of.Goals as goal

pub returns : goal.returns
returns c =
    let accepted = c.requires.accepted in
    solo_runs_have_traces accepted.0 accepted.1 c.args.program.now c.args.limit c.args.pick
    c.in_ok-run.run' accepted.2 c.in_ok-run.ensures
