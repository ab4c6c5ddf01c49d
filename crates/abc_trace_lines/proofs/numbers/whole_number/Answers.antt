use Rattle.std.proofs.Common.{[]}
use Rattle.abc_trace_lines.proofs.Numerals.{front_of_whole, whole_not}
use Rattle.abc_trace_lines.proofs.numbers.whole_number.Goals as goal

pub returns-in-None : goal.returns-in-None
returns-in-None c = λ n is. c.in-None.ensures n [] (front_of_whole _ n is)

pub returns-else-is_empty : goal.returns-else-is_empty
returns-else-is_empty c = whole_not _ _ _ c.in-Some.ensures c.if-is_empty.ensures
