use Rattle.abc_steps.proofs.AlikeSteps.{alike_multicasts, alike_turns}
use Rattle.abc_steps.proofs.laws.alike_systems_run_alike.Goals as goal

pub returns : goal.returns
returns c = record { steps = alike_multicasts; runs = alike_turns }
