-- How choices become known, deed by deed.
use Rattle.std.specs.Prelude.{ℕ, ◌+◌, ◌<◌, ◌≤◌, ◌==◌, List, [], ◌∷◌, ◌++◌, Option, Some}
use Rattle.std.specs.Prelude.{None, length, if◌then◌else◌}
use Rattle.abc_packet.specs.declared.choice.Choice.{Choice}
use Rattle.abc_packet.specs.declared.log.Deed.{Deed}
use Rattle.abc_packet.specs.declared.log.Deed.TheVariants.{Asked, Arrived, Took, Turned, Passed}
use Rattle.abc_packet.specs.declared.log.Deed.TheVariants.{Stray}
use Rattle.abc_packet.specs.declared.log.Entry.{Entry}
use Rattle.abc_network.specs.Numbering.{taken_numbers}

-- A choice of which nothing is known yet.
abbrev pub blank : Choice
blank = record { sender = 0; place = None; heard = [] }

-- The choice of a number, where an agent heard it at this place, or turned it at one.
abbrev pub hears_it : ℕ → ℕ → Choice → Choice
hears_it agent place c = record c { heard = c.heard ++ (agent, place) ∷ [] }

abbrev pub turns_it : ℕ → Option ℕ → Choice → Choice
turns_it agent place c = record c { sender = agent; place = place }

-- Choices of the numbers from n on, of which that of one number is changed.
abbrev pub changed_at : (Choice → Choice) → ℕ → ℕ → List Choice → List Choice
changed_at change number n [] = []
changed_at change number n (c ∷ rows) =
    (if number == n then change c else c) ∷ changed_at change number (n + 1) rows

-- What a deed of an agent tells the choices of the numbers from 1 on,
abbrev pub tell_rows : {L : Type 0} → ℕ → Deed L → List Choice → List Choice
tell_rows agent (Took number (Some place)) rows = changed_at (hears_it agent place) number 1 rows
tell_rows agent (Took number None) rows = rows
tell_rows agent (Turned number place content) rows = changed_at (turns_it agent place) number 1 rows
tell_rows agent Asked rows = rows
tell_rows agent (Arrived link stamped drew) rows = rows
tell_rows agent (Passed number) rows = rows
tell_rows agent (Stray link stamped) rows = rows

-- what a log tells them, entry by entry,
abbrev pub tell_log : {L : Type 0} → ℕ → List (Entry L) → List Choice → List Choice
tell_log agent [] rows = rows
tell_log agent (e ∷ entries) rows = tell_log agent entries (tell_rows agent e.deed rows)

-- and what the logs of all agents tell, from one agent on.
abbrev pub tell_logs : {L : Type 0} → ℕ → List (List (Entry L)) → List Choice → List Choice
tell_logs agent [] rows = rows
tell_logs agent (log ∷ logs) rows = tell_logs (agent + 1) logs (tell_log agent log rows)

-- How many numbers the first of these logs took or turned; 0 where there is none.
abbrev pub numbers_in : {L : Type 0} → List (List (Entry L)) → ℕ
numbers_in [] = 0
numbers_in (log ∷ logs) = length (taken_numbers log)

-- A number that a deed took or turned is from 1 to `count`;
abbrev pub IsWithin : {L : Type 0} → ℕ → Deed L → Type 0
IsWithin count (Took number place) = (0 < number) × (number ≤ count)
IsWithin count (Turned number place content) = (0 < number) × (number ≤ count)
IsWithin count Asked = Unit {0}
IsWithin count (Arrived link stamped drew) = Unit {0}
IsWithin count (Passed number) = Unit {0}
IsWithin count (Stray link stamped) = Unit {0}

-- so are those of a log, and of all.
abbrev pub AreWithin : {L : Type 0} → ℕ → List (Entry L) → Type 0
AreWithin count [] = Unit {0}
AreWithin count (e ∷ entries) = IsWithin count e.deed × AreWithin count entries

abbrev pub AllWithin : {L : Type 0} → ℕ → List (List (Entry L)) → Type 0
AllWithin count [] = Unit {0}
AllWithin count (log ∷ logs) = AreWithin count log × AllWithin count logs
