use Rattle.std.proofs.Common.{◌+◌, length}
use Rattle.abc_checks.specs.Graphs.{search_of}
use Rattle.abc_checks.proofs.Searching.{Searching, unmarked}
use Rattle.abc_checks.proofs.search.reaches_itself.Given as goal

abbrev pub invariant-loop-next : goal.invariant-loop-next
invariant-loop-next l = Searching l.graph l.node (search_of l.search)

abbrev pub decreases-loop-next : goal.decreases-loop-next
decreases-loop-next l = unmarked l.search.marked.items + length l.search.waiting.items
