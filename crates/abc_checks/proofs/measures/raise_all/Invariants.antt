use Rattle.std.proofs.Common.{◌≡◌, ◌<◌, ℕ, true, false}
use Rattle.abc_checks.specs.Tables.{measure_of, cap_of, room, IsRising, IsSettledAt}
use Rattle.abc_checks.proofs.measures.raise_all.Given as goal

abbrev pub invariant-loop-i : goal.invariant-loop-i
invariant-loop-i l = record {
  rising : IsRising (measure_of l.measure) l.places.program.now.definitions l.table.items;
  settled : l.changed ≡ false → (k : ℕ) → k < l.i → IsSettledAt (measure_of l.measure) l.places.program.now.definitions l.table.items k;
  same : l.changed ≡ false → l.table.items ≡ l.initial.table.items;
  falls : l.changed ≡ true → room (cap_of l.measure) l.table.items < room (cap_of l.measure) l.initial.table.items;
}
