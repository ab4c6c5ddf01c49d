use Rattle.abc_trace_lines.proofs.TupleValues.{no_literal_before}
use Rattle.abc_trace_lines.proofs.items.read_literal.Goals as goal

pub returns-then-begins_with_digit : goal.returns-then-begins_with_digit
returns-then-begins_with_digit c =
    no_literal_before _ _ _ _ c.in-Ok.ensures.ok c.split_at.ensures.back
    c.if-begins_with_digit.ensures
