use Rattle.abc_steps.proofs.TurnExamples.{two_turns, second_branch, second_output}
use Rattle.abc_steps.proofs.laws.worked_turns.Goals as goal

pub returns : goal.returns
returns c = record { two_turns = two_turns; second_branch = second_branch; second_output = second_output }
