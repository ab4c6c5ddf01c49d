use Rattle.abc_trace_lines.proofs.Numerals.{front_one, front_of_before}
use Rattle.abc_trace_lines.proofs.numbers.number_before.Goals as goal

pub returns-in_default-behind_mark : goal.returns-in_default-behind_mark
returns-in_default-behind_mark c =
    λ n more is. c.in_default-behind_mark.ensures more
    (front_one _ _ _ _ _ c.in-Some.ensures (front_of_before _ _ more n c.requires is)).1
