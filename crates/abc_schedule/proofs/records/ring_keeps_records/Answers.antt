use Rattle.abc_schedule.proofs.ByShape.{ring-records}
use Rattle.abc_schedule.proofs.records.ring_keeps_records.Goals as goal

pub returns : goal.returns
returns g c = ring-records _
