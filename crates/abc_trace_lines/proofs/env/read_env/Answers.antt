use Rattle.abc_trace_lines.proofs.EntryLists.{env_not_entries}
use Rattle.abc_trace_lines.proofs.env.read_env.Goals as goal

pub returns-in_default-2 : goal.returns-in_default-2
returns-in_default-2 c =
    env_not_entries _ _ _ _ c.in-Some.ensures c.in-Some-name_before.ensures
    (rw c.in_default-2.is at c.in_ok-entries.ensures)
