use Rattle.std.proofs.Common.{◌≡◌, ◌+◌, ◌-◌, vec_len, All}
use Rattle.std.specs.Prelude.{vec_capacity}
use Rattle.abc_counter.specs.Counters.{IsFreshSeatOf, IsUndealt}
use Rattle.abc_counter.proofs.counter.SharedCounter.deal.Given as goal

abbrev pub invariant-dealing : goal.invariant-dealing
invariant-dealing l = record {
  first : IsUndealt l.self l.first (l.seats + 1 - l.counter);
  count : vec_len l.dealt + 1 ≡ l.counter;
  room : vec_capacity l.dealt ≡ l.seats;
  fresh : All (IsFreshSeatOf l.self) l.dealt.items;
}
