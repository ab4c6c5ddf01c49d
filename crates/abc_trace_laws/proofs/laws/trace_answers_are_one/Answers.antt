use Rattle.abc_trace_laws.proofs.Answers.{trace_answers_are_one as the_law}
use Rattle.abc_trace_laws.proofs.laws.trace_answers_are_one.Goals as goal

pub returns : goal.returns
returns c = the_law
