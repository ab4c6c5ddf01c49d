use Rattle.abc_grammar.proofs.Signs as lemma
use Rattle.abc_grammar.proofs.laws.signs_are_of_literals.Goals as goal

pub returns : goal.returns
returns c = lemma.signs_are_of_literals
