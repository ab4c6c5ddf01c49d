use Rattle.abc_counter.specs.Counters.{IsSeatOf}
use Rattle.abc_counter.proofs.tests.draw_all.Given as goal

abbrev pub invariant-drawing : goal.invariant-drawing
invariant-drawing l = IsSeatOf l.shared l.seat
