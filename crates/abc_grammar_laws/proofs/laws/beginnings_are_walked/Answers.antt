use Rattle.abc_grammar_laws.proofs.Beginnings.{beginnings_are_walked}
use Rattle.abc_grammar_laws.proofs.laws.beginnings_are_walked.Goals as goal

pub returns : goal.returns
returns c = beginnings_are_walked
