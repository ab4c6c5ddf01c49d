-- What a record says: the entries of each actor's log.
use Rattle.std.specs.Prelude.{ℕ, zero, suc, List, [], ◌∷◌}
use Rattle.abc_packet.specs.declared.log.Log.{Log}
use Rattle.abc_packet.specs.declared.log.Entry.{Entry}
use Rattle.abc_net.specs.declared.record.Record.{Record}

-- The entries of each of these logs.
abbrev pub entries_of : {L : Type 0} → List (Log L) → List (List (Entry L))
entries_of [] = []
entries_of (log ∷ logs) = log.entries ∷ entries_of logs

-- The first logs, so many.
abbrev pub first_logs : {L : Type 0} → ℕ → List (List (Entry L)) → List (List (Entry L))
first_logs zero logs = []
first_logs (suc count) [] = []
first_logs (suc count) (log ∷ logs) = log ∷ first_logs count logs

-- The logs of all actors of a record, and those of its agents.
abbrev pub logs_of : {L : Type 0} → Record L → List (List (Entry L))
logs_of r = entries_of r.logs

abbrev pub agents_logs : {L : Type 0} → Record L → List (List (Entry L))
agents_logs r = first_logs r.agents (logs_of r)
