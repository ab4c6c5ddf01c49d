use Rattle.abc_grammar.proofs.TokenSigns.{signs_are_one}
use Rattle.abc_grammar.proofs.laws.signs_are_one.Goals as goal

pub returns : goal.returns
returns c = signs_are_one
