use Rattle.abc_run_trace.proofs.HaveTraces.{solo_runs_have_traces, replays_have_traces}
use Rattle.abc_run_trace.proofs.laws.runs_have_traces.Goals as goal

pub returns : goal.returns
returns c = record { solo = solo_runs_have_traces; replayed = replays_have_traces }
