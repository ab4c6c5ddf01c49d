use Rattle.abc_grammar_laws.proofs.NoneTooMany.{short_tuples}
use Rattle.abc_grammar_laws.proofs.laws.short_tuples_pass_no_limit.Goals as goal

pub returns : goal.returns
returns c = short_tuples
