use Rattle.abc_value.proofs.Alike.{written_is_read}
use Rattle.abc_value.proofs.laws.written_is_read.Goals as goal

pub returns : goal.returns
returns c = written_is_read
