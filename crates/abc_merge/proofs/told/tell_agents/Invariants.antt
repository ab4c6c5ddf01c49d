use Rattle.std.proofs.Common.{◌≡◌, take}
use Rattle.abc_net.specs.Records.{entries_of}
use Rattle.abc_merge.specs.Telling.{tell_logs}
use Rattle.abc_merge.proofs.told.tell_agents.Given as goal

-- The choices were told the logs so far.
abbrev pub invariant-loop-agent : goal.invariant-loop-agent
invariant-loop-agent g l = l.rows.items ≡ tell_logs 0 (entries_of (take l.agent l.logs)) l.fn.rows.items
