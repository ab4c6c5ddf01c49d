-- What each node of a record handled.
use Rattle.std.proofs.Common.{◌≡◌, ◌∙◌, ℕ, zero, suc, ◌+◌, List, [], ◌∷◌, length, drop, get_or, refl, ap, sym, arith}
use Rattle.std.proofs.lemmas.List.{get_or-drop, length-map, length-drop}
use Rattle.std.proofs.Math.ListN.{get_or-map}
use Rattle.abc_packet.specs.declared.log.Log.{Log}
use Rattle.abc_packet.specs.declared.log.Entry.{Entry}
use Rattle.abc_history.specs.Histories.{arrivals_in}
use Rattle.abc_logs.specs.Merges.{log_of}
use Rattle.abc_net.specs.declared.record.Record.{Record}
use Rattle.abc_net.specs.Records.{entries_of, logs_of}
use Rattle.abc_record_text.specs.RecordTexts.{handled_in}

-- there are as many logs of entries as there are logs
pub length-entries_of : {L : Type 0} (logs : List (Log L)) → length (entries_of logs) ≡ length logs
length-entries_of [] = refl
length-entries_of (log ∷ logs) = ap suc (length-entries_of logs)

-- the log of an actor is the one at its place
log_of-get_or : {L : Type 0} (logs : List (List (Entry L))) (actor : ℕ) → log_of logs actor ≡ get_or logs actor []
log_of-get_or [] actor = refl
log_of-get_or (log ∷ logs) zero = refl
log_of-get_or (log ∷ logs) (suc actor) = log_of-get_or logs actor

-- a node's count is that of its log
pub get_or-handled_in : {L : Type 0} (ran : Record L) (node : ℕ) →
    get_or (handled_in ran) node 0 ≡ arrivals_in (log_of (logs_of ran) (ran.agents + node))
get_or-handled_in ran node =
    let logs = logs_of ran in
    get_or-map arrivals_in (drop ran.agents logs) node []
    ∙ ap arrivals_in (get_or-drop ran.agents logs node [] ∙ sym (log_of-get_or logs (ran.agents + node)))

-- there are as many counts as nodes
pub length-handled_in : {L : Type 0} (ran : Record L) → length ran.logs ≡ ran.agents + ran.nodes → length (handled_in ran) ≡ ran.nodes
length-handled_in ran many =
    let logs = logs_of ran in
    let mapped = length-map (drop ran.agents logs) arrivals_in in
    let dropped = length-drop ran.agents logs in
    let entries = length-entries_of ran.logs in
    omega (arith, mapped, dropped, entries, many)
