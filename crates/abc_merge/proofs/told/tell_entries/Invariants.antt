use Rattle.std.proofs.Common.{◌≡◌, take}
use Rattle.abc_merge.specs.Telling.{tell_log}
use Rattle.abc_merge.proofs.told.tell_entries.Given as goal

-- The choices were told the entries so far.
abbrev pub invariant-loop-entry : goal.invariant-loop-entry
invariant-loop-entry g l = l.rows.items ≡ tell_log l.agent (take l.entry-index l.entries) l.fn.rows.items
