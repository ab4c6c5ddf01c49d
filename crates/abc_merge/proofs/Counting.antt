-- Counting arrivals, entry by entry.
use Rattle.std.proofs.Common.{◌≡◌, ℕ, zero, suc, ◌+◌, ◌<◌, List, [], ◌∷◌, ◌++◌, length, take}
use Rattle.std.proofs.Common.{refl, ap, ◌∙◌, arith, get_or}
use Rattle.std.proofs.lemmas.List.{take_more}
use Rattle.abc_packet.specs.declared.log.Log.{Log}
use Rattle.abc_packet.specs.declared.log.Entry.{Entry}
use Rattle.abc_history.specs.Histories.{arrivals_in}
use Rattle.abc_logs.specs.MicroSteps.{taken_by}
use Rattle.abc_logs.specs.Merges.{log_of}
use Rattle.abc_net.specs.Records.{entries_of}

-- The log at an actor's place is that actor's.
pub log_at : {L : Type 0} (logs : List (Log L)) (actor : ℕ) (d : Log L) → actor < length logs →
    (get_or logs actor d).entries ≡ log_of (entries_of logs) actor
log_at [] actor d lt = absurd (omega arith)
log_at (log ∷ logs) zero d lt = refl
log_at (log ∷ logs) (suc actor) d lt = log_at logs actor d (omega arith)

-- The last of some entries counts as what it took.
pub arrivals-push : {L : Type 0} (entries : List (Entry L)) (e : Entry L) →
    arrivals_in (entries ++ e ∷ []) ≡ arrivals_in entries + length (taken_by e.deed)
arrivals-push [] e =
    let right : length (taken_by e.deed) + 0 ≡ 0 + length (taken_by e.deed) = omega arith in right
arrivals-push (x ∷ entries) e =
    let rest = arrivals-push entries e in
    let sum : length (taken_by x.deed) + arrivals_in (entries ++ e ∷ [])
    ≡ (length (taken_by x.deed) + arrivals_in entries) + length (taken_by e.deed) = omega (arith, rest) in
    sum

-- One entry more counts as what it took.
pub one_more : {L : Type 0} (entries : List (Entry L)) (i : ℕ) (d : Entry L) → i < length entries →
    arrivals_in (take (i + 1) entries)
    ≡ arrivals_in (take i entries) + length (taken_by (get_or entries i d).deed)
one_more entries i d lt =
    ap arrivals_in (take_more entries i d lt) ∙ arrivals-push (take i entries) (get_or entries i d)
