use Rattle.abc_grammar_laws.proofs.Crowded.{extra_parts_are_crowded}
use Rattle.abc_grammar_laws.proofs.laws.extra_parts_are_crowded.Goals as goal

pub returns : goal.returns
returns c = extra_parts_are_crowded
