use Rattle.std.proofs.lemmas.List.{map_push}
use Rattle.abc_trace_lines.proofs.EntryLists.{entries_not, entries_more}
use Rattle.abc_trace_lines.proofs.env.read_each_entry.Goals as goal

pub returns-in_default-2 : goal.returns-in_default-2
returns-in_default-2 c =
    entries_not _ _ _ c.entries.invariant c.in_default.ensures
    (rw c.in_default-2.is at c.in_ok-entry.ensures)

pub entries-preserved : goal.entries-preserved
entries-preserved c =
    rw (c.in_ok-push.ensures.ok, map_push)
    (entries_more _ _ _ _ _ c.entries.invariant (rw c.in-Some-2.is at c.in_ok-entry.ensures))
