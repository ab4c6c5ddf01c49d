use Rattle.abc_checks.specs.Tables.{measure_of, IsRising}
use Rattle.abc_checks.proofs.measures.raise_in_turn.Given as goal

abbrev pub invariant-loop-at : goal.invariant-loop-at
invariant-loop-at l = IsRising (measure_of l.measure) l.places.program.now.definitions l.table.items
