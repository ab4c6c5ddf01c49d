use Rattle.abc_grammar.proofs.WorkedThrough as worked
use Rattle.abc_grammar.proofs.examples.worked_texts.Goals as goal

pub returns : goal.returns
returns c = worked.worked_texts
