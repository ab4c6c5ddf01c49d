-- What an agent logs: its clock, its log's entries, and for how many more there is room.
use Rattle.std.specs.Prelude.{◌≡◌, ℕ, ◌+◌, max, Bool, true, false, List, [], ◌∷◌, ◌++◌, None}
use Rattle.abc_packet.specs.declared.stamped.Stamped.{Stamped}
use Rattle.abc_packet.specs.declared.log.Deed.{Deed}
use Rattle.abc_packet.specs.declared.log.Deed.TheVariants.{Arrived, Stray}
use Rattle.abc_packet.specs.declared.log.Entry.{Entry}
use Rattle.abc_network.specs.Networks.{taken_clock}

pub record JournalState (L : Type 0) : Type 0 where
  pub clock : ℕ
  pub entries : List (Entry L)
  pub room : ℕ

-- The deed of an arrival: as the table has a row for it, or not.
abbrev pub arrival_of : {L : Type 0} → Bool → ℕ → Stamped L → Deed L
arrival_of true link stamped = Arrived link stamped None
arrival_of false link stamped = Stray link stamped

-- The clock and the entries are the same.
pub record SameEntries {L : Type 0} (old new : JournalState L) : Type 0 where
  pub clock : new.clock ≡ old.clock
  pub entries : new.entries ≡ old.entries

-- A deed is logged at one above the greatest of the clock and that of the packet which it took.
pub record Enters {L : Type 0} (old : JournalState L) (deed : Deed L) (new : JournalState L) :
    Type 0 where
  pub clock : new.clock ≡ max old.clock (taken_clock deed) + 1
  pub entries : new.entries ≡ old.entries ++ record { clock = new.clock; deed = deed } ∷ []
