use Rattle.std.proofs.Common.{◌≡◌, ◌++◌, drop, map}
use Rattle.abc_term.specs.Calls.{called}
use Rattle.abc_term.specs.Standing.{process_of, definitions_of}
use Rattle.abc_checks.specs.Parts.{place_of}
use Rattle.abc_checks.specs.Graphs.{counts_behind, graph_of}
use Rattle.abc_checks.proofs.calls.graph.Given as goal

abbrev pub invariant-loop-definition : goal.invariant-loop-definition
invariant-loop-definition l =
    l.graph.items
    ++ map (λ d. map (place_of (definitions_of l.places.program.now.definitions)) (called (counts_behind l.counted) (process_of d.body))) (drop l.definition-index l.definition-items)
    ≡ graph_of (called (counts_behind l.counted)) l.places.program.now.definitions
