use Rattle.std.proofs.Common.{◌≡◌, ◌+◌, length}
use Rattle.abc_link.proofs.tests.send_numbers.Given as goal

abbrev pub invariant-sending : goal.invariant-sending
invariant-sending l = record {
  same : l.out ≡ l.initial.out;
  number : length l.pool.queues ≡ length l.initial.pool.queues;
  spare : l.pool.spare + l.sent ≡ l.initial.pool.spare;
}
