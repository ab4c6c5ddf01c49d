use Rattle.std.proofs.Common.{All, length}
use Rattle.abc_counter.specs.Counters.{IsSeatOf, HasTaken}
use Rattle.abc_counter.proofs.counter.SharedCounter.gather.Given as goal

abbrev pub invariant-taking : goal.invariant-taking
invariant-taking l = record {
  taken : HasTaken l.self l.whole l.seats l.fn.seats;
  of : All (IsSeatOf l.self) l.seats;
}

abbrev pub decreases-taking : goal.decreases-taking
decreases-taking l = length l.seats
