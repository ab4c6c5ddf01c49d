use Rattle.std.proofs.Common.{◌≡◌, drop}
use Rattle.abc_checks.specs.Graphs.{mark_all, search_of}
use Rattle.abc_checks.proofs.search.Search.mark_all.Given as goal

abbrev pub invariant-loop-node : goal.invariant-loop-node
invariant-loop-node l = mark_all (drop l.node-index l.nodes) (search_of l.self) ≡ mark_all l.nodes (search_of l.initial.self)
