use Rattle.std.proofs.Common.{◌≡◌, ◌≤◌, ℕ, length, drop, nat_eq}
use Rattle.std.specs.HashMap.{get}
use Rattle.abc_moves.specs.Bodies.{place_from}
use Rattle.abc_moves.proofs.bodies.places.Given as goal

abbrev pub decreases-loop-at : goal.decreases-loop-at
decreases-loop-at l = l.at

abbrev pub invariant-loop-at : goal.invariant-loop-at
invariant-loop-at l = record {
  within : l.at ≤ length l.definitions;
  finds : (n : ℕ) → get nat_eq l.first n ≡ place_from l.at (drop l.at l.definitions) n;
}
