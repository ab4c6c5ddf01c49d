use Rattle.abc_checks.specs.Tables.{measure_of, cap_of, room, IsRising}
use Rattle.abc_checks.proofs.measures.table.Given as goal

abbrev pub invariant-loop-measure : goal.invariant-loop-measure
invariant-loop-measure l = IsRising (measure_of l.measure) l.places.program.now.definitions l.table.items

abbrev pub decreases-loop-measure : goal.decreases-loop-measure
decreases-loop-measure l = room (cap_of l.measure) l.table.items
