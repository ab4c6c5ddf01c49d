use Rattle.abc_record_ends.proofs.ByShape.{records-end-right}
use Rattle.abc_record_ends.proofs.laws.records_end_right.Goals as goal

pub returns : goal.returns
returns g c = records-end-right _
