use Rattle.abc_schedule.proofs.WrongRuns.{right-run, equal-clock, actor-first, crossed-0, crossed-1}
use Rattle.abc_schedule.proofs.WrongRuns.{swapped, skipped, twice}
use Rattle.abc_schedule.proofs.laws.wrong_laws_fall.Goals as goal

pub returns : goal.returns
returns c = record {
  right = right-run;
  equal_clock = equal-clock;
  actor_first = actor-first;
  crossed_0 = crossed-0;
  crossed_1 = crossed-1;
  swapped = swapped;
  skipped = skipped;
  twice = twice;
}
