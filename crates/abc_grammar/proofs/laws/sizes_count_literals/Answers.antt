use Rattle.abc_grammar.proofs.Counted as lemma
use Rattle.abc_grammar.proofs.laws.sizes_count_literals.Goals as goal

pub returns : goal.returns
returns c = lemma.size-pred
