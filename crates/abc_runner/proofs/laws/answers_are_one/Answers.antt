use Rattle.abc_runner.proofs.OneAnswer.{one_of_text, one_answer}
use Rattle.abc_runner.proofs.laws.answers_are_one.Goals as goal

pub returns : goal.returns
returns c = record { texts = one_of_text; answers = one_answer }
