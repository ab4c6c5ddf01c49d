use Rattle.std.proofs.Common.{arith}
use Rattle.abc_trace_lines.proofs.Numerals.{front_of_place, place_not}
use Rattle.abc_trace_lines.proofs.numbers.place.Goals as goal

pub returns-in_default : goal.returns-in_default
returns-in_default c = λ n more is. c.in_default.ensures n more (front_of_place _ more n is)

pub returns-then-n-from : goal.returns-then-n-from
returns-then-n-from c = place_not _ _ _ c.in-Some.ensures (omega arith)
