-- The choices that are told log by log are those of the logs.
use Rattle.std.proofs.Common.{◌≡◌, ◌⊎◌, ℕ, zero, suc, ◌+◌, ◌<◌, ◌≤◌, List, [], ◌∷◌, ◌++◌, length}
use Rattle.std.proofs.Common.{refl, sym, ap, ◌∙◌, subst, arith, inl, inr, Option, Some, None, replicate}
use Rattle.std.proofs.Common.{◌==◌, true, false, eq-eqb, ne_eqb, append-nil, append_assoc, length-append}
use Rattle.std.specs.Prelude.{if◌then◌else◌}
use Rattle.std.proofs.lemmas.Bool.{cases_eq}
use Rattle.abc_packet.specs.declared.choice.Choice.{Choice}
use Rattle.abc_packet.specs.declared.log.Deed.{Deed}
use Rattle.abc_packet.specs.declared.log.Deed.TheVariants.{Asked, Arrived, Took, Turned, Passed, Stray}
use Rattle.abc_packet.specs.declared.log.Entry.{Entry}
use Rattle.abc_network.specs.Numbering.{taken_number, taken_numbers}
use Rattle.abc_logs.specs.Choices.{turned_by, heard_by, turned_in, heard_in, some_place, beside, senders_from}
use Rattle.abc_logs.specs.Choices.{hearers_from, AreChoices, AreNumbered, AllTook, numbers_from}
use Rattle.abc_merge.specs.Telling.{blank, hears_it, turns_it, changed_at, tell_rows, tell_log, tell_logs}
use Rattle.abc_merge.specs.Telling.{IsWithin, AreWithin, AllWithin, numbers_in}

-- What is known of one choice, where these turned its number so far, at most one, and these heard it.
pub record SoFar (turned : List (ℕ × Option ℕ)) (heard : List (ℕ × ℕ)) (c : Choice) : Type 0 where
  pub sender : (turned ≡ []) ⊎ (turned ≡ (c.sender, c.place) ∷ [])
  pub hearers : c.heard ≡ heard

-- And of the choices of the numbers from n on.
abbrev pub AllSoFar : (ℕ → List (ℕ × Option ℕ)) → (ℕ → List (ℕ × ℕ)) → ℕ → List Choice → Type 0
AllSoFar turned heard n [] = Unit {0}
AllSoFar turned heard n (c ∷ rows) = SoFar (turned n) (heard n) c × AllSoFar turned heard (n + 1) rows

-- The same is known where the same turned and heard.
known-same : (turned turned' : ℕ → List (ℕ × Option ℕ)) (heard heard' : ℕ → List (ℕ × ℕ)) (n : ℕ)
    (rows : List Choice) → ((m : ℕ) → turned m ≡ turned' m) → ((m : ℕ) → heard m ≡ heard' m) →
    AllSoFar turned heard n rows → AllSoFar turned' heard' n rows
known-same turned turned' heard heard' n [] e f h = tt
known-same turned turned' heard heard' n (c ∷ rows) e f h = (
  subst (λ t. SoFar t (heard' n) c) (e n) (subst (λ t. SoFar (turned n) t c) (f n) h.0),
  known-same turned turned' heard heard' (n + 1) rows e f h.1,
)

-- An agent heard a number at a place.
known-heard : (turned : ℕ → List (ℕ × Option ℕ)) (heard : ℕ → List (ℕ × ℕ)) (a number place n : ℕ)
    (rows : List Choice) → AllSoFar turned heard n rows →
    AllSoFar (λ m. turned m ++ [])
    (λ m. heard m ++ beside a (if number == m then some_place (Some place) else [])) n
    (changed_at (hears_it a place) number n rows)
known-heard turned heard a number place n [] h = tt
known-heard turned heard a number place n (c ∷ rows) h =
    let there = known-heard turned heard a number place (n + 1) rows h.1 in
    let same : turned n ≡ turned n ++ [] = sym (append-nil (turned n)) in
    elim (cases_eq number n) [
      | inl e ↦
          let b : (number == n) ≡ true = eq-eqb number n e in (
            subst (λ b. SoFar (turned n ++ []) (heard n ++ beside a (if b then some_place (Some place) else []))
                (if b then hears_it a place c else c)) (sym b)
                (record {
                  sender = subst (λ t. (t ≡ []) ⊎ (t ≡ (c.sender, c.place) ∷ [])) same h.0.sender;
                  hearers = ap (λ l. l ++ (a, place) ∷ []) h.0.hearers;
                }),
            there,
          )
      | inr ne ↦
          let b : (number == n) ≡ false = ne_eqb number n ne in (
            subst (λ b. SoFar (turned n ++ []) (heard n ++ beside a (if b then some_place (Some place) else []))
                (if b then hears_it a place c else c)) (sym b)
                (record {
                  sender = subst (λ t. (t ≡ []) ⊎ (t ≡ (c.sender, c.place) ∷ [])) same h.0.sender;
                  hearers = h.0.hearers ∙ sym (append-nil (heard n));
                }),
            there,
          )
    ]

-- An agent turned a number that nobody had turned.
known-turned : (turned : ℕ → List (ℕ × Option ℕ)) (heard : ℕ → List (ℕ × ℕ)) (a number : ℕ)
    (place : Option ℕ) (n : ℕ) (rows : List Choice) → turned number ≡ [] → AllSoFar turned heard n rows →
    AllSoFar (λ m. turned m ++ beside a (if number == m then place ∷ [] else [])) (λ m. heard m ++ []) n
    (changed_at (turns_it a place) number n rows)
known-turned turned heard a number place n [] fresh h = tt
known-turned turned heard a number place n (c ∷ rows) fresh h =
    let there = known-turned turned heard a number place (n + 1) rows fresh h.1 in
    elim (cases_eq number n) [
      | inl e ↦
          let b : (number == n) ≡ true = eq-eqb number n e in (
            subst (λ b. SoFar (turned n ++ beside a (if b then place ∷ [] else [])) (heard n ++ [])
                (if b then turns_it a place c else c)) (sym b)
                (record {
                  sender = inr (ap (λ t. t ++ (a, place) ∷ []) (subst (λ m. turned m ≡ []) e fresh));
                  hearers = h.0.hearers ∙ sym (append-nil (heard n));
                }),
            there,
          )
      | inr ne ↦
          let b : (number == n) ≡ false = ne_eqb number n ne in (
            subst (λ b. SoFar (turned n ++ beside a (if b then place ∷ [] else [])) (heard n ++ [])
                (if b then turns_it a place c else c)) (sym b)
                (record {
                  sender = subst (λ t. (t ≡ []) ⊎ (t ≡ (c.sender, c.place) ∷ [])) (sym (append-nil (turned n)))
                      h.0.sender;
                  hearers = h.0.hearers ∙ sym (append-nil (heard n));
                }),
            there,
          )
    ]

-- Nothing comes after nothing.
both-none : (a number m : ℕ) → beside {X = ℕ} a (if number == m then some_place None else []) ≡ []
both-none a number m =
    elim (cases_eq number m) [
      | inl e ↦ ap (λ b. beside {X = ℕ} a (if b then some_place None else [])) (eq-eqb number m e)
      | inr ne ↦ ap (λ b. beside {X = ℕ} a (if b then some_place None else [])) (ne_eqb number m ne)
    ]

-- A deed that tells nothing.
known-still : (turned : ℕ → List (ℕ × Option ℕ)) (heard : ℕ → List (ℕ × ℕ)) (rows : List Choice) →
    AllSoFar turned heard 1 rows → AllSoFar (λ m. turned m ++ []) (λ m. heard m ++ []) 1 rows
known-still turned heard rows h =
    known-same turned (λ m. turned m ++ []) heard (λ m. heard m ++ []) 1 rows
    (λ m. sym (append-nil (turned m))) (λ m. sym (append-nil (heard m))) h

-- A list of length 0 is empty.
none-of : {X : Type 0} (xs : List X) → length xs ≡ 0 → xs ≡ []
none-of [] e = refl
none-of (x ∷ xs) e = absurd (omega (arith, e))

length-beside : {X : Type 0} (a : ℕ) (xs : List X) → length (beside a xs) ≡ length xs
length-beside a [] = refl
length-beside a (x ∷ xs) = ap suc (length-beside a xs)

-- What is known after one deed more.
known-deed : {L : Type 0} (turned : ℕ → List (ℕ × Option ℕ)) (heard : ℕ → List (ℕ × ℕ)) (a : ℕ) (d : Deed L)
    (rows : List Choice) (count : ℕ) → IsWithin count d →
    ((n : ℕ) → 0 < n → n ≤ count → length (turned n) + length (turned_by n d) ≤ 1) →
    AllSoFar turned heard 1 rows →
    AllSoFar (λ m. turned m ++ beside a (turned_by m d)) (λ m. heard m ++ beside a (heard_by m d)) 1
    (tell_rows a d rows)
known-deed turned heard a Asked rows count within one h = known-still turned heard rows h
known-deed turned heard a (Arrived link stamped drew) rows count within one h = known-still turned heard rows h
known-deed turned heard a (Passed number) rows count within one h = known-still turned heard rows h
known-deed turned heard a (Stray link stamped) rows count within one h = known-still turned heard rows h
known-deed turned heard a (Took number None) rows count within one h =
    known-same (λ m. turned m ++ []) (λ m. turned m ++ []) (λ m. heard m ++ [])
    (λ m. heard m ++ beside a (if number == m then some_place None else [])) 1 rows (λ m. refl)
    (λ m. ap (λ l. heard m ++ l) (sym (both-none a number m))) (known-still turned heard rows h)
known-deed turned heard a (Took number (Some place)) rows count within one h =
    known-heard turned heard a number place 1 rows h
known-deed turned heard a (Turned number place content) rows count within one h =
    let least = one number within.0 within.1 in
    let here : length (turned_by number (Turned number place content)) ≡ 1 =
    ap (λ b. length {A = Option ℕ} (if b then place ∷ [] else [])) (eq-eqb number number refl) in
    let none : length (turned number) ≡ 0 = omega (arith, least, here) in
    known-turned turned heard a number place 1 rows (none-of (turned number) none) h

beside-append : {X : Type 0} (a : ℕ) (xs ys : List X) → beside a (xs ++ ys) ≡ beside a xs ++ beside a ys
beside-append a [] ys = refl
beside-append a (x ∷ xs) ys = ap (λ l. (a, x) ∷ l) (beside-append a xs ys)

-- What is said first and then of the rest is said of both.
regroup : {X : Type 0} (a : ℕ) (before : List (ℕ × X)) (xs ys : List X) →
    (before ++ beside a xs) ++ beside a ys ≡ before ++ beside a (xs ++ ys)
regroup a before xs ys =
    append_assoc before (beside a xs) (beside a ys) ∙ ap (λ l. before ++ l) (sym (beside-append a xs ys))

-- What is known after a log.
known-log : {L : Type 0} (turned : ℕ → List (ℕ × Option ℕ)) (heard : ℕ → List (ℕ × ℕ)) (a : ℕ)
    (entries : List (Entry L)) (rows : List Choice) (count : ℕ) → AreWithin count entries →
    ((n : ℕ) → 0 < n → n ≤ count → length (turned n) + length (turned_in n entries) ≤ 1) →
    AllSoFar turned heard 1 rows →
    AllSoFar (λ m. turned m ++ beside a (turned_in m entries)) (λ m. heard m ++ beside a (heard_in m entries)) 1
    (tell_log a entries rows)
known-log turned heard a [] rows count within one h = known-still turned heard rows h
known-log turned heard a (e ∷ entries) rows count within one h =
    known-same (λ m. (turned m ++ beside a (turned_by m e.deed)) ++ beside a (turned_in m entries))
    (λ m. turned m ++ beside a (turned_in m (e ∷ entries)))
    (λ m. (heard m ++ beside a (heard_by m e.deed)) ++ beside a (heard_in m entries))
    (λ m. heard m ++ beside a (heard_in m (e ∷ entries))) 1 (tell_log a (e ∷ entries) rows)
    (λ m. regroup a (turned m) (turned_by m e.deed) (turned_in m entries))
    (λ m. regroup a (heard m) (heard_by m e.deed) (heard_in m entries))
    (known-log (λ m. turned m ++ beside a (turned_by m e.deed)) (λ m. heard m ++ beside a (heard_by m e.deed)) a
    entries (tell_rows a e.deed rows) count within.1
    (λ n low high.
    let least = one n low high in
    let parts = length-append (turned_by n e.deed) (turned_in n entries) in
    let sides = length-append (turned n) (beside a (turned_by n e.deed)) in
    let same = length-beside a (turned_by n e.deed) in
    omega (arith, least, parts, sides, same))
    (known-deed turned heard a e.deed rows count within.0
    (λ n low high.
    let least = one n low high in
    let parts = length-append (turned_by n e.deed) (turned_in n entries) in
    omega (arith, least, parts)) h))

-- What is known after the logs of all agents from one on.
known-logs : {L : Type 0} (turned : ℕ → List (ℕ × Option ℕ)) (heard : ℕ → List (ℕ × ℕ)) (a : ℕ)
    (logs : List (List (Entry L))) (rows : List Choice) (count : ℕ) → AllWithin count logs →
    ((n : ℕ) → 0 < n → n ≤ count → length (turned n) + length (senders_from n a logs) ≤ 1) →
    AllSoFar turned heard 1 rows →
    AllSoFar (λ m. turned m ++ senders_from m a logs) (λ m. heard m ++ hearers_from m a logs) 1
    (tell_logs a logs rows)
known-logs turned heard a [] rows count within one h = known-still turned heard rows h
known-logs turned heard a (log ∷ logs) rows count within one h =
    known-same (λ m. (turned m ++ beside a (turned_in m log)) ++ senders_from m (a + 1) logs)
    (λ m. turned m ++ senders_from m a (log ∷ logs))
    (λ m. (heard m ++ beside a (heard_in m log)) ++ hearers_from m (a + 1) logs)
    (λ m. heard m ++ hearers_from m a (log ∷ logs)) 1 (tell_logs a (log ∷ logs) rows)
    (λ m. append_assoc (turned m) (beside a (turned_in m log)) (senders_from m (a + 1) logs))
    (λ m. append_assoc (heard m) (beside a (heard_in m log)) (hearers_from m (a + 1) logs))
    (known-logs (λ m. turned m ++ beside a (turned_in m log)) (λ m. heard m ++ beside a (heard_in m log)) (a + 1)
    logs (tell_log a log rows) count within.1
    (λ n low high.
    let least = one n low high in
    let parts = length-append (beside a (turned_in n log)) (senders_from n (a + 1) logs) in
    let sides = length-append (turned n) (beside a (turned_in n log)) in
    omega (arith, least, parts, sides))
    (known-log turned heard a log rows count within.0
    (λ n low high.
    let least = one n low high in
    let parts = length-append (beside a (turned_in n log)) (senders_from n (a + 1) logs) in
    let same = length-beside a (turned_in n log) in
    omega (arith, least, parts, same)) h))

-- Of blank choices nothing is known.
known-blank : (n count : ℕ) → AllSoFar (λ m. []) (λ m. []) n (replicate count blank)
known-blank n zero = tt
known-blank n (suc count) = (record { sender = inl refl; hearers = refl }, known-blank (n + 1) count)

-- Where each number has one sender, what is known are the choices.
known-whole : {L : Type 0} (logs : List (List (Entry L))) (n : ℕ) (rows : List Choice) →
    ((m : ℕ) → n ≤ m → m < n + length rows → length (senders_from m 0 logs) ≡ 1) →
    AllSoFar (λ m. senders_from m 0 logs) (λ m. hearers_from m 0 logs) n rows → AreChoices logs n rows
known-whole logs n [] one h = tt
known-whole logs n (c ∷ rows) one h = (
  record {
    sender = elim h.0.sender [
      | inl e ↦
          let is = one n (omega arith) (omega arith) in
          let empty = ap (λ l. length l) e in
          absurd (omega (arith, is, empty))
      | inr e ↦ e
    ];
    heard = sym h.0.hearers;
  },
  known-whole logs (n + 1) rows (λ m low high. one m (omega (arith, low)) (omega (arith, high))) h.1,
)

-- Telling keeps the count of choices.
count-changed : (change : Choice → Choice) (number n : ℕ) (rows : List Choice) →
    length (changed_at change number n rows) ≡ length rows
count-changed change number n [] = refl
count-changed change number n (c ∷ rows) = ap suc (count-changed change number (n + 1) rows)

pub count_rows : {L : Type 0} (a : ℕ) (d : Deed L) (rows : List Choice) →
    length (tell_rows a d rows) ≡ length rows
count_rows a Asked rows = refl
count_rows a (Arrived link stamped drew) rows = refl
count_rows a (Passed number) rows = refl
count_rows a (Stray link stamped) rows = refl
count_rows a (Took number None) rows = refl
count_rows a (Took number (Some place)) rows = count-changed (hears_it a place) number 1 rows
count_rows a (Turned number place content) rows = count-changed (turns_it a place) number 1 rows

pub count_log : {L : Type 0} (a : ℕ) (entries : List (Entry L)) (rows : List Choice) →
    length (tell_log a entries rows) ≡ length rows
count_log a [] rows = refl
count_log a (e ∷ entries) rows = count_log a entries (tell_rows a e.deed rows) ∙ count_rows a e.deed rows

pub count_logs : {L : Type 0} (a : ℕ) (logs : List (List (Entry L))) (rows : List Choice) →
    length (tell_logs a logs rows) ≡ length rows
count_logs a [] rows = refl
count_logs a (log ∷ logs) rows = count_logs (a + 1) logs (tell_log a log rows) ∙ count_log a log rows

pub count-blank : (count : ℕ) → length (replicate count blank) ≡ count
count-blank zero = refl
count-blank (suc count) = ap suc (count-blank count)

-- The numbers of a list are from `low` on and below `high`.
abbrev Between : ℕ → ℕ → List ℕ → Type 0
Between low high [] = Unit {0}
Between low high (n ∷ ns) = (low ≤ n) × (n < high) × Between low high ns

between-wider : (low low' high : ℕ) (ns : List ℕ) → low' ≤ low → Between low high ns → Between low' high ns
between-wider low low' high [] le h = tt
between-wider low low' high (n ∷ ns) le h =
    let low-is = h.0 in (omega (arith, le, low-is), h.1, between-wider low low' high ns le h.2)

numbers-between : (n count : ℕ) → Between n (n + count) (numbers_from n count)
numbers-between n zero = tt
numbers-between n (suc count) =
    let rest = numbers-between (n + 1) count in
    let end : (n + 1) + count ≡ n + suc count = omega arith in (
      omega arith,
      omega arith,
      between-wider (n + 1) n (n + suc count) (numbers_from (n + 1) count) (omega arith)
          (subst (λ high. Between (n + 1) high (numbers_from (n + 1) count)) end rest),
    )

count-numbers : (n count : ℕ) → length (numbers_from n count) ≡ count
count-numbers n zero = refl
count-numbers n (suc count) = ap suc (count-numbers (n + 1) count)

-- One entry and then a log: the numbers of both.
within-entry : {L : Type 0} (count : ℕ) (d : Deed L) (rest : List ℕ) →
    Between 1 (1 + count) (taken_number d ++ rest) → IsWithin count d × Between 1 (1 + count) rest
within-entry count Asked rest h = (tt, h)
within-entry count (Arrived link stamped drew) rest h = (tt, h)
within-entry count (Passed number) rest h = (tt, h)
within-entry count (Stray link stamped) rest h = (tt, h)
within-entry count (Took number place) rest h =
    let low = h.0 in let high = h.1 in ((omega (arith, low), omega (arith, high)), h.2)
within-entry count (Turned number place content) rest h =
    let low = h.0 in let high = h.1 in ((omega (arith, low), omega (arith, high)), h.2)

-- A log whose numbers are from 1 to `count` is within.
within-log : {L : Type 0} (count : ℕ) (entries : List (Entry L)) →
    Between 1 (1 + count) (taken_numbers entries) → AreWithin count entries
within-log count [] h = tt
within-log count (e ∷ entries) h =
    let both = within-entry count e.deed (taken_numbers entries) h in
    (both.0, within-log count entries both.1)

-- So are logs that took the numbers from 1 to `count`.
pub within_all : {L : Type 0} (count : ℕ) (logs : List (List (Entry L))) → AllTook count logs →
    AllWithin count logs
within_all count [] took = tt
within_all count (log ∷ logs) took = (
  within-log count log (subst (Between 1 (1 + count)) (sym took.0) (numbers-between 1 count)),
  within_all count logs took.1,
)

-- The first log tells how many numbers there are.
pub count_is : {L : Type 0} (logs : List (List (Entry L))) (count : ℕ) → AreNumbered logs count →
    numbers_in logs ≡ count
count_is [] zero numbered = refl
count_is [] (suc count) numbered =
    let none = numbered.one 1 (omega arith) (omega arith) in absurd (omega (arith, none))
count_is (log ∷ logs) count numbered = ap (λ l. length l) numbered.took.0 ∙ count-numbers 1 count

-- What all logs tell blank choices, as many as there are numbers, are the choices.
pub told_whole : {L : Type 0} (logs : List (List (Entry L))) (count : ℕ) (rows : List Choice) →
    AreNumbered logs count → rows ≡ tell_logs 0 logs (replicate count blank) →
    AreChoices logs 1 rows × AreNumbered logs (length rows)
told_whole logs count rows numbered is =
    let many : length rows ≡ count =
    ap (λ l. length l) is ∙ (count_logs 0 logs (replicate count blank) ∙ count-blank count) in
    let known = known-logs (λ m. []) (λ m. []) 0 logs (replicate count blank) count
    (within_all count logs numbered.took)
    (λ n low high. let one = numbered.one n low high in omega (arith, one)) (known-blank 1 count) in (
      known-whole logs 1 rows
          (λ m low high. numbered.one m low (omega (arith, high, many)))
          (subst (AllSoFar (λ m. senders_from m 0 logs) (λ m. hearers_from m 0 logs) 1) (sym is) known),
      subst (AreNumbered logs) (sym many) numbered,
    )
