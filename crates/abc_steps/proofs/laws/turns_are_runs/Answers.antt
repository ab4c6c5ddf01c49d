use Rattle.abc_steps.proofs.OneRun.{turns_are_runs, turns_end}
use Rattle.abc_steps.proofs.laws.turns_are_runs.Goals as goal

pub returns : goal.returns
returns c = record { runs = turns_are_runs; ends = turns_end }
