use Rattle.abc_trace_lines.proofs.Words.{cut_of_name}
use Rattle.abc_trace_lines.proofs.names.name.Goals as goal

pub returns-else-is_name : goal.returns-else-is_name
returns-else-is_name c =
    λ word more is. c.if-is_name.ensures (cut_of_name _ _ _ word more c.cut_word.ensures is)
