use Rattle.std.proofs.Common.{length, map}
use Rattle.abc_trace_lines.proofs.EntryLists.{IsEntriesSoFar}
use Rattle.abc_trace_lines.proofs.env.read_each_entry.Given as goal

abbrev pub invariant-entries : goal.invariant-entries
invariant-entries l = IsEntriesSoFar l.bytes (map (λ e. (e.0.now, e.1)) l.entries) l.rest

abbrev pub decreases-entries : goal.decreases-entries
decreases-entries l = length l.rest
