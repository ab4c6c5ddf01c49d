use Rattle.abc_trace_laws.proofs.Answers.{trace_answers_are_renumbered as the_law}
use Rattle.abc_trace_laws.proofs.laws.trace_answers_are_renumbered.Goals as goal

pub returns : goal.returns
returns c = the_law
