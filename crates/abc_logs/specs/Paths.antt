-- Paths: logs whose entries are, in order, micro-steps of one actor.
use Rattle.std.specs.Prelude.{◌≡◌, ℕ, ◌+◌, max, List, [], ◌∷◌, ◌++◌}
use Rattle.abc_packet.specs.declared.packets.Packet.{Packet}
use Rattle.abc_packet.specs.declared.stamped.Stamped.{Stamped}
use Rattle.abc_packet.specs.declared.log.Entry.{Entry}
use Rattle.abc_network.specs.Networks.{Actor, taken_clock}
use Rattle.abc_logs.specs.MicroSteps.{Table, stamped_with}

-- From a state and a clock the entries are, in order, micro-steps by the table, which send these
-- packets, each on its link, and lead to a state. An entry's clock is one above the greatest of the
-- clock before it and that of the packet which it took.
abbrev pub Path : {S L : Type 0} → Table S L → S → ℕ → List (Entry L) → List (ℕ × Stamped L) → S →
    Type 0
Path does s clock [] sent s' = (sent ≡ []) × (s' ≡ s)
Path {S} {L} does s clock (e ∷ entries) sent s' =
    (mid : S) × (sends : List (ℕ × Packet L)) × (later : List (ℕ × Stamped L))
    × does s e.deed sends mid × (e.clock ≡ max clock (taken_clock e.deed) + 1)
    × (sent ≡ stamped_with e.clock sends ++ later) × Path does mid e.clock entries later s'

-- The clock after these entries.
abbrev pub clock_after : {L : Type 0} → ℕ → List (Entry L) → ℕ
clock_after clock [] = clock
clock_after clock (e ∷ entries) = clock_after e.clock entries

-- The log of an actor is a path from a start, where its clock was 0 and its log was empty, to its
-- state, on which it sent these packets; and its clock is that of its last entry.
pub record IsPath {S L : Type 0} (does : Table S L) (start : S) (sent : List (ℕ × Stamped L))
    (a : Actor S L) : Type 0 where
  pub path : Path does start 0 a.log sent a.state
  pub clock : a.clock ≡ clock_after 0 a.log
