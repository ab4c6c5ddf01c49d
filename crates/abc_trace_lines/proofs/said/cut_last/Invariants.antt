use Rattle.std.proofs.Common.{◌≤◌, length, drop}
use Rattle.abc_trace_lines.specs.Reading.{HasNoClose}
use Rattle.abc_trace_lines.proofs.said.cut_last.Given as goal

abbrev pub invariant-loop-at : goal.invariant-loop-at
invariant-loop-at l = (l.at ≤ length l.bytes) × HasNoClose (drop l.at l.bytes)

abbrev pub decreases-loop-at : goal.decreases-loop-at
decreases-loop-at l = l.at
