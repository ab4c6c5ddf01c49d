use Rattle.abc_traceable.proofs.Naming.{names_are_told}
use Rattle.abc_traceable.proofs.laws.names_are_told.Goals as goal

pub returns : goal.returns
returns c = names_are_told
