use Rattle.std.proofs.Common.{length, map}
use Rattle.abc_trace_lines.specs.Plain.{hearer_text}
use Rattle.abc_trace_lines.specs.Spelled.{IsHearer}
use Rattle.abc_trace_lines.proofs.ItemLists.{IsPartedSoFar}
use Rattle.abc_trace_lines.proofs.heard.read_each_hearer.Given as goal

abbrev pub invariant-loop-next : goal.invariant-loop-next
invariant-loop-next l =
    IsPartedSoFar hearer_text IsHearer l.bytes (map (λ h. (h.0.now, h.1)) l.heard) l.rest

abbrev pub decreases-loop-next : goal.decreases-loop-next
decreases-loop-next l = length l.rest
