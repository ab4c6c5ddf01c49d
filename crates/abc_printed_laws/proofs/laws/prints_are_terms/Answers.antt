use Rattle.abc_printed_laws.proofs.Programs.{prints_are_terms}
use Rattle.abc_printed_laws.proofs.laws.prints_are_terms.Goals as goal

pub returns : goal.returns
returns c = prints_are_terms
