use Rattle.std.proofs.Common.{length}
use Rattle.abc_trace_order.specs.Reading.{IsReadTo}
use Rattle.abc_trace_reader.proofs.read.read_lines.Given as goal

abbrev pub invariant-lines : goal.invariant-lines
invariant-lines l = IsReadTo l.bytes l.rest l.reading

abbrev pub decreases-lines : goal.decreases-lines
decreases-lines l = length l.rest
