-- The loops that tell choices, step by step.
use Rattle.std.proofs.Common.{◌≡◌, ℕ, zero, suc, ◌+◌, ◌<◌, List, [], ◌∷◌, ◌++◌, length, take, refl}
use Rattle.std.proofs.Common.{sym, ap, ◌∙◌, arith, get_or, replicate, length-append, length-take-le}
use Rattle.std.proofs.lemmas.List.{take_more}
use Rattle.abc_packet.specs.declared.choice.Choice.{Choice}
use Rattle.abc_packet.specs.declared.log.Log.{Log}
use Rattle.abc_packet.specs.declared.log.Entry.{Entry}
use Rattle.abc_network.specs.Numbering.{taken_number, taken_numbers}
use Rattle.abc_net.specs.Records.{entries_of, first_logs}
use Rattle.abc_merge.specs.Telling.{blank, tell_rows, tell_log, tell_logs, IsWithin, AreWithin, AllWithin}

-- The numbers of one entry more.
numbers-push : {L : Type 0} (entries : List (Entry L)) (e : Entry L) →
    length (taken_numbers (entries ++ e ∷ [])) ≡ length (taken_numbers entries) + length (taken_number e.deed)
numbers-push [] e =
    let sum = length-append (taken_number e.deed) [] in
    omega (arith, sum)
numbers-push (x ∷ entries) e =
    let rest = numbers-push entries e in
    let with = length-append (taken_number x.deed) (taken_numbers (entries ++ e ∷ [])) in
    let without = length-append (taken_number x.deed) (taken_numbers entries) in
    omega (arith, rest, with, without)

pub more_numbers : {L : Type 0} (entries : List (Entry L)) (i : ℕ) (d : Entry L) → i < length entries →
    length (taken_numbers (take (i + 1) entries))
    ≡ length (taken_numbers (take i entries)) + length (taken_number (get_or entries i d).deed)
more_numbers entries i d lt =
    ap (λ l. length (taken_numbers l)) (take_more entries i d lt) ∙ numbers-push (take i entries) (get_or entries i d)

-- One blank choice more.
blank-push : (count : ℕ) → replicate (suc count) blank ≡ replicate count blank ++ blank ∷ []
blank-push zero = refl
blank-push (suc count) = ap (λ l. blank ∷ l) (blank-push count)

pub more_blank : (rows rows' : List Choice) (count : ℕ) → rows ≡ replicate count blank →
    rows' ≡ rows ++ blank ∷ [] → rows' ≡ replicate (count + 1) blank
more_blank rows rows' count was now =
    let next : suc count ≡ count + 1 = omega arith in
    now ∙ (ap (λ l. l ++ blank ∷ []) was ∙ (sym (blank-push count) ∙ ap (λ n. replicate n blank) next))

-- Each entry of a log is within where the log is.
pub within_at : {L : Type 0} (count : ℕ) (entries : List (Entry L)) (i : ℕ) (d : Entry L) → i < length entries →
    AreWithin count entries → IsWithin count (get_or entries i d).deed
within_at count [] i d lt h = absurd (omega (arith, lt))
within_at count (e ∷ entries) zero d lt h = h.0
within_at count (e ∷ entries) (suc i) d lt h = within_at count entries i d (omega (arith, lt)) h.1

-- An entry more is told behind the others.
log-push : {L : Type 0} (a : ℕ) (entries : List (Entry L)) (e : Entry L) (rows : List Choice) →
    tell_log a (entries ++ e ∷ []) rows ≡ tell_rows a e.deed (tell_log a entries rows)
log-push a [] e rows = refl
log-push a (x ∷ entries) e rows = log-push a entries e (tell_rows a x.deed rows)

pub more_told : {L : Type 0} (a : ℕ) (entries : List (Entry L)) (i : ℕ) (d : Entry L) (first rows : List Choice) →
    i < length entries → rows ≡ tell_log a (take i entries) first →
    tell_rows a (get_or entries i d).deed rows ≡ tell_log a (take (i + 1) entries) first
more_told a entries i d first rows lt was =
    ap (tell_rows a (get_or entries i d).deed) was
    ∙ (sym (log-push a (take i entries) (get_or entries i d) first)
    ∙ ap (λ l. tell_log a l first) (sym (take_more entries i d lt)))

-- So is a log more.
logs-push : {L : Type 0} (a : ℕ) (logs : List (Log L)) (log : Log L) (rows : List Choice) →
    tell_logs a (entries_of (logs ++ log ∷ [])) rows
    ≡ tell_log (a + length logs) log.entries (tell_logs a (entries_of logs) rows)
logs-push {L} a [] log rows =
    let same : a ≡ a + length {A = Log L} [] = omega arith in
    ap (λ n. tell_log n log.entries rows) same
logs-push a (x ∷ logs) log rows =
    let same : (a + 1) + length logs ≡ a + length (x ∷ logs) = omega arith in
    logs-push (a + 1) logs log (tell_log a x.entries rows)
    ∙ ap (λ n. tell_log n log.entries (tell_logs (a + 1) (entries_of logs) (tell_log a x.entries rows))) same

pub more_logs : {L : Type 0} (logs : List (Log L)) (a : ℕ) (d : Log L) (first rows rows' : List Choice) →
    a < length logs → rows ≡ tell_logs 0 (entries_of (take a logs)) first →
    rows' ≡ tell_log a (get_or logs a d).entries rows → rows' ≡ tell_logs 0 (entries_of (take (a + 1) logs)) first
more_logs logs a d first rows rows' lt was now =
    let long = length-take-le a logs (omega (arith, lt)) in
    let count : 0 + length (take a logs) ≡ a = omega (arith, long) in
    now ∙ (ap (tell_log a (get_or logs a d).entries) was
    ∙ (ap (λ n. tell_log n (get_or logs a d).entries (tell_logs 0 (entries_of (take a logs)) first)) (sym count)
    ∙ (sym (logs-push 0 (take a logs) (get_or logs a d) first)
    ∙ ap (λ l. tell_logs 0 (entries_of l) first) (sym (take_more logs a d lt)))))

-- Each log is within where all are.
pub within_logs_at : {L : Type 0} (count : ℕ) (logs : List (Log L)) (a : ℕ) (d : Log L) → a < length logs →
    AllWithin count (entries_of logs) → AreWithin count (get_or logs a d).entries
within_logs_at count [] a d lt h = absurd (omega (arith, lt))
within_logs_at count (log ∷ logs) zero d lt h = h.0
within_logs_at count (log ∷ logs) (suc a) d lt h = within_logs_at count logs a d (omega (arith, lt)) h.1

-- The first logs are those of the agents.
pub first_are : {L : Type 0} (count : ℕ) (logs : List (Log L)) →
    entries_of (take count logs) ≡ first_logs count (entries_of logs)
first_are zero logs = refl
first_are (suc count) [] = refl
first_are (suc count) (log ∷ logs) = ap (λ l. log.entries ∷ l) (first_are count logs)
