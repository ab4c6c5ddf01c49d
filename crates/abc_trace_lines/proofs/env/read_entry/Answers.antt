use Rattle.abc_trace_lines.proofs.EntryLists.{entry_not_equal, entry_not_value, entry_not_end, entry_not_none}
use Rattle.abc_trace_lines.proofs.env.read_entry.Goals as goal

pub returns-in_default-behind : goal.returns-in_default-behind
returns-in_default-behind c = entry_not_equal _ _ _ c.in-Some.ensures c.in_default-behind.ensures

pub returns-in_default-2 : goal.returns-in_default-2
returns-in_default-2 c =
    entry_not_value _ _ _ _ c.in-Some.ensures c.in-Some-behind.ensures
    (rw c.in_default-2.is at c.in_ok-value.ensures)

pub returns-in_default-behind-2 : goal.returns-in_default-behind-2
returns-in_default-behind-2 c =
    entry_not_end _ _ _ _ _ _ c.in-Some.ensures c.in-Some-behind.ensures
    (rw c.in-Some-2.is at c.in_ok-value.ensures) c.in_default-behind-2.ensures

pub returns-in-Nothing : goal.returns-in-Nothing
returns-in-Nothing c =
    let item = rw c.in-Some-2.is at c.in_ok-value.ensures in
    entry_not_none _ _ _ _ _ c.in-Some.ensures c.in-Some-behind.ensures (rw c.in-Nothing.is at item)
