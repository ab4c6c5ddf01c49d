use Rattle.abc_live_body.proofs.Steps.{steps_are_the_calculus, runs_are_the_calculus}
use Rattle.abc_live_body.proofs.laws.bodies_run_as_the_calculus.Goals as goal

pub returns : goal.returns
returns c = record { steps = steps_are_the_calculus; runs = runs_are_the_calculus }
