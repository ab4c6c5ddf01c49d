use Rattle.abc_printed_laws.proofs.NamedPrograms.{names_are_kept}
use Rattle.abc_printed_laws.proofs.laws.names_are_kept.Goals as goal

pub returns : goal.returns
returns c = names_are_kept
