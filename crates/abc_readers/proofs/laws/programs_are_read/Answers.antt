use Rattle.abc_readers.proofs.ProgramWhole.{programs_are_read}
use Rattle.abc_readers.proofs.laws.programs_are_read.Goals as goal

pub returns : goal.returns
returns c = programs_are_read
