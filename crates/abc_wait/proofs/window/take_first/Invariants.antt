use Rattle.std.proofs.Common.{◌≡◌, ◌+◌, ◌≤◌, length}
use Rattle.abc_wait.specs.Windows.{items_from}
use Rattle.abc_wait.proofs.window.take_first.Given as goal

abbrev pub invariant-loop-place : goal.invariant-loop-place
invariant-loop-place g l = record {
  items : items_from l.first l.places.items ≡ items_from l.initial.first l.initial.places.items;
  rises : l.initial.first ≤ l.first;
  bounded : l.first + length l.places.items ≡ l.initial.first + length l.initial.places.items;
}

abbrev pub decreases-loop-place : goal.decreases-loop-place
decreases-loop-place g l = length l.places.items
