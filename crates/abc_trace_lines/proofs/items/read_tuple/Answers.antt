use Rattle.std.proofs.Common.{arith}
use Rattle.abc_trace_lines.proofs.TupleValues.{tuple_not_closed, tuple_too_many}
use Rattle.abc_trace_lines.proofs.items.read_tuple.Goals as goal

pub returns-in_default-behind-2 : goal.returns-in_default-behind-2
returns-in_default-behind-2 c =
    tuple_not_closed _ _ _ _ c.in-Some.ensures c.in_default-behind.ensures
    (rw c.in-Some-2.is at c.in_ok-values.ensures)
    c.in_default-behind-2.ensures

pub returns-then-len-gt-MOST_PARTS : goal.returns-then-len-gt-MOST_PARTS
returns-then-len-gt-MOST_PARTS c =
    tuple_too_many _ _ _ _ c.in-Some.ensures c.in_default-behind.ensures
    (rw c.in-Some-2.is at c.in_ok-values.ensures) (omega arith)
