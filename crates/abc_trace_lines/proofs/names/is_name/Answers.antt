use Rattle.std.proofs.Common.{sym, arith}
use Rattle.abc_trace_lines.proofs.Words.{name_is}
use Rattle.abc_trace_lines.proofs.names.is_name.Goals as goal

pub returns-in-None-keyword_at : goal.returns-in-None-keyword_at
returns-in-None-keyword_at c =
    name_is _ _ _ c.in-Some.ensures.cases.0 (sym c.if-not-is_letter.ensures) c.requires
    (omega arith) (sym c.in-None-keyword_at.ensures)
