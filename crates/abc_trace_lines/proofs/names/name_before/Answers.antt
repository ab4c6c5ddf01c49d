use Rattle.abc_trace_lines.proofs.Words.{name_one, name_of_before}
use Rattle.abc_trace_lines.proofs.names.name_before.Goals as goal

pub returns-in_default-behind_mark : goal.returns-in_default-behind_mark
returns-in_default-behind_mark c =
    λ word more is. c.in_default-behind_mark.ensures more
    (name_one _ _ _ _ _ c.in-Some.ensures (name_of_before _ _ word more c.requires is)).1
