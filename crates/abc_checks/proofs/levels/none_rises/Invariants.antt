use Rattle.std.proofs.Common.{◌≡◌, ◌<◌, ℕ, [], false, get_or, nat_lt}
use Rattle.std.specs.List.{list_any}
use Rattle.abc_checks.specs.Graphs.{level_of}
use Rattle.abc_checks.proofs.levels.none_rises.Given as goal

abbrev pub invariant-loop-node : goal.invariant-loop-node
invariant-loop-node l =
    (k : ℕ) → k < l.node → list_any (λ j. nat_lt (level_of l.levels k) (level_of l.levels j)) (get_or l.graph k []) ≡ false
