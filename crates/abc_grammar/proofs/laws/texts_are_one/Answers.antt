use Rattle.abc_grammar.proofs.OneText as text
use Rattle.abc_grammar.proofs.laws.texts_are_one.Goals as goal

pub returns : goal.returns
returns c = text.texts_are_one
