use Rattle.abc_steps.proofs.OneRun.{turns_exist, turns_are_determined}
use Rattle.abc_steps.proofs.laws.turns_fix_the_run.Goals as goal

pub returns : goal.returns
returns c = record { exists = turns_exist; determined = turns_are_determined }
