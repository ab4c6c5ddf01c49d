use Rattle.abc_value.specs.Literals.{literal, IsValue}
use Rattle.abc_trace_lines.proofs.Literals.{literal_split}
use Rattle.abc_trace_lines.proofs.ItemLists.{parted_not_first, parted_not_next, parted_more}
use Rattle.abc_trace_lines.proofs.items.read_values.Goals as goal

pub returns-in_default : goal.returns-in_default
returns-in_default c =
    parted_not_first literal IsValue literal_split _ (rw c.in_default.is at c.in_ok-first.ensures)

pub returns-in_default-2 : goal.returns-in_default-2
returns-in_default-2 c =
    parted_not_next literal IsValue literal_split _ _ _ _ c.loop-next.invariant
    c.in-Some-behind.ensures (rw c.in_default-2.is at c.in_ok-value.ensures)

pub loop-next-preserved : goal.loop-next-preserved
loop-next-preserved c =
    rw c.in_ok-push-2.ensures.ok
    (parted_more literal IsValue literal_split _ _ _ _ _ _ c.loop-next.invariant
    c.in-Some-behind.ensures (rw c.in-Some-2.is at c.in_ok-value.ensures))
