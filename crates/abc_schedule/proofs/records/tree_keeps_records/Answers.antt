use Rattle.abc_schedule.proofs.ByShape.{tree-records}
use Rattle.abc_schedule.proofs.records.tree_keeps_records.Goals as goal

pub returns : goal.returns
returns g c = tree-records _
