use Rattle.std.proofs.Common.{◌≡◌, ◌++◌, ◌+◌, ◌-◌, ◌≤◌}
use Rattle.std.specs.Prelude.{replicate, None}
use Rattle.std.specs.VecDeque.{deque_len, deque_capacity}
use Rattle.abc_wait.proofs.window.widen.Given as goal

abbrev pub invariant-widening : goal.invariant-widening
invariant-widening g l = record {
  items : l.places.items ≡ l.initial.places.items ++ replicate l.pushed None;
  room : deque_len l.places + (l.missing - l.pushed) ≤ deque_capacity l.places;
}
