-- What every actor keeps beside its state: its logical clock and its log.
use Rattle.std.specs.Prelude.{◌≡◌, ℕ, ◌+◌, ◌≤◌, max, List, [], ◌∷◌, ◌++◌, length}
use Rattle.abc_packet.specs.declared.log.Deed.{Deed}
use Rattle.abc_packet.specs.declared.log.Entry.{Entry}
use Rattle.abc_packet.specs.Logs.{last_clock}
use Rattle.abc_network.specs.Networks.{taken_clock}
use Rattle.abc_logs.specs.MicroSteps.{taken_by}

-- The entry of a deed, with the clock after it.
abbrev pub entry_of : {L : Type 0} → ℕ → Deed L → Entry L
entry_of clock deed = record { clock = clock; deed = deed }

-- What contracts see of a history: the clock, the entries of the log in order, and how many more
-- the log can take without memory.
pub record Past (L : Type 0) : Type 0 where
  pub clock : ℕ
  pub log : List (Entry L)
  pub room : ℕ

-- A deed was logged. The clock is now one above the greater of what it was and that of the packet
-- which the deed took.
pub record Noted {L : Type 0} (old : Past L) (deed : Deed L) (new : Past L) : Type 0 where
  pub clock : new.clock ≡ max old.clock (taken_clock deed) + 1
  pub log : new.log ≡ old.log ++ entry_of new.clock deed ∷ []

-- How many packets these entries took from links, strays too.
abbrev pub arrivals_in : {L : Type 0} → List (Entry L) → ℕ
arrivals_in [] = 0
arrivals_in (e ∷ entries) = length (taken_by e.deed) + arrivals_in entries

-- The clock is that of the last entry, and the arrivals are counted. They are no more than the
-- clock, which rises with each.
pub record IsHistory {L : Type 0} (clock arrived : ℕ) (log : List (Entry L)) : Type 0 where
  pub last : clock ≡ last_clock 0 log
  pub counted : arrived ≡ arrivals_in log
  pub few : arrived ≤ clock
