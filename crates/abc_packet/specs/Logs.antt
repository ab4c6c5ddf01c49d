-- Logs: what an actor did, one entry for each of its micro-steps.
use Rattle.std.specs.Prelude.{ℕ, ◌<◌, List, [], ◌∷◌}
use Rattle.abc_packet.specs.declared.log.Deed.{Deed}
use Rattle.abc_packet.specs.declared.log.Deed.TheVariants.{Asked, Arrived, Stray}
use Rattle.abc_packet.specs.declared.log.Deed.TheVariants.{Took, Turned, Passed}
use Rattle.abc_packet.specs.declared.log.Entry.{Entry}

-- The clock is above that of the packet which the deed took from a link, where it took one.
abbrev pub IsAfterPacket : {L : Type 0} → ℕ → Deed L → Type 0
IsAfterPacket clock Asked = Unit {0}
IsAfterPacket clock (Arrived link stamped drew) = stamped.clock < clock
IsAfterPacket clock (Took number place) = Unit {0}
IsAfterPacket clock (Turned number place content) = Unit {0}
IsAfterPacket clock (Passed number) = Unit {0}
IsAfterPacket clock (Stray link stamped) = stamped.clock < clock

-- The clocks rise from `low` on, each above that of the packet which its entry took.
abbrev pub Rise : {L : Type 0} → ℕ → List (Entry L) → Type 0
Rise low [] = Unit {0}
Rise low (e ∷ entries) = (low < e.clock) × IsAfterPacket e.clock e.deed × Rise e.clock entries

-- The clock of the last entry, or `low` where there is none.
abbrev pub last_clock : {L : Type 0} → ℕ → List (Entry L) → ℕ
last_clock low [] = low
last_clock low (e ∷ entries) = last_clock e.clock entries

-- A log: its entries in order, and how many more it can take without memory.
pub record LogState (L : Type 0) : Type 0 where
  pub entries : List (Entry L)
  pub room : ℕ
