use Rattle.abc_grammar_laws.proofs.Below.{names_are_numbered}
use Rattle.abc_grammar_laws.proofs.laws.names_are_numbered.Goals as goal

pub returns : goal.returns
returns c = names_are_numbered
