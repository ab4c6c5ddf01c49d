use Rattle.abc_grammar_laws.proofs.Crowded.{tuples_are_short}
use Rattle.abc_grammar_laws.proofs.Shorts.{sets_are_short}
use Rattle.abc_grammar_laws.proofs.laws.limits_hold.Goals as goal

pub returns : goal.returns
returns c = record { tuples = tuples_are_short; sets = sets_are_short }
