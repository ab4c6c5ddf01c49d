use Rattle.std.proofs.Common.{◌≡◌, drop, nat_lt}
use Rattle.std.specs.List.{list_any}
use Rattle.abc_checks.specs.Graphs.{level_of}
use Rattle.abc_checks.proofs.levels.any_above.Given as goal

abbrev pub invariant-loop-node : goal.invariant-loop-node
invariant-loop-node l =
    list_any (λ j. nat_lt l.bound (level_of l.levels j)) l.nodes ≡ list_any (λ j. nat_lt l.bound (level_of l.levels j)) (drop l.node-index l.nodes)
