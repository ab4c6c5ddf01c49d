use Rattle.std.proofs.Common.{take}
use Rattle.abc_trace_order.specs.Texts.{IsOneLine}
use Rattle.abc_trace_reader.proofs.places.first_line.Given as goal

abbrev pub invariant-loop-index : goal.invariant-loop-index
invariant-loop-index l = IsOneLine (take l.index l.bytes)
