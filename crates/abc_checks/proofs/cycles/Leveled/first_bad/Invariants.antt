use Rattle.std.proofs.Common.{ℕ, ◌<◌}
use Rattle.abc_checks.specs.Graphs.{CyclesAt}
use Rattle.abc_checks.proofs.cycles.Leveled.first_bad.Given as goal

abbrev pub invariant-loop-at : goal.invariant-loop-at
invariant-loop-at l = (k : ℕ) → k < l.at → ¬ CyclesAt l.self.counted l.self.places.now.program.now.definitions k
