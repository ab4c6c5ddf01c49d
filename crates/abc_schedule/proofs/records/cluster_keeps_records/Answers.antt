use Rattle.abc_schedule.proofs.ByShape.{cluster-records}
use Rattle.abc_schedule.proofs.records.cluster_keeps_records.Goals as goal

pub returns : goal.returns
returns g c = cluster-records _
