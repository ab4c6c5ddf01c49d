use Rattle.abc_term.proofs.Steps.{multicast_is_determined, step_is_determined, run_is_determined}
use Rattle.abc_term.proofs.laws.choices_determine_steps.Goals as goal

pub returns : goal.returns
returns c = record { multicast = multicast_is_determined; step = step_is_determined; run = run_is_determined }
