use Rattle.abc_trace_lines.proofs.Numerals.{text_of_front}
use Rattle.abc_trace_lines.proofs.numbers.number.Goals as goal

pub returns-in-None : goal.returns-in-None
returns-in-None c =
    λ n more is. c.in-None.ensures n (text_of_front _ _ _ more n c.cut_digits.ensures is)
