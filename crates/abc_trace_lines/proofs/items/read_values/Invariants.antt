use Rattle.std.proofs.Common.{length}
use Rattle.abc_value.specs.Literals.{literal, IsValue}
use Rattle.abc_trace_lines.proofs.ItemLists.{IsPartedSoFar}
use Rattle.abc_trace_lines.proofs.items.read_values.Given as goal

abbrev pub invariant-loop-next : goal.invariant-loop-next
invariant-loop-next l = IsPartedSoFar literal IsValue l.bytes l.values l.rest

abbrev pub decreases-loop-next : goal.decreases-loop-next
decreases-loop-next l = length l.rest
