use Rattle.std.proofs.Common.{◌≡◌, ◌<◌, ◌^◌, take}
use Rattle.abc_text.specs.Tokens.{decimal}
use Rattle.abc_trace_lines.proofs.numbers.value_of.Given as goal

abbrev pub invariant-loop-b : goal.invariant-loop-b
invariant-loop-b l = (l.value ≡ decimal (take l.b-index l.digits)) × (l.value < 2 ^ 64)
