use Rattle.abc_grammar.proofs.OneText as text
use Rattle.abc_grammar.proofs.laws.fronts_are_one.Goals as goal

pub returns : goal.returns
returns c = text.fronts_are_one
