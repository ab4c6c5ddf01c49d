use Rattle.abc_grammar_laws.proofs.Meeting.{limits_meet}
use Rattle.abc_grammar_laws.proofs.laws.limits_meet.Goals as goal

pub returns : goal.returns
returns c = limits_meet
