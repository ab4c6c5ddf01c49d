-- One micro-step of one actor: what it takes from a link, what it logs, what it sends.
use Rattle.std.specs.Prelude.{◌≡◌, ℕ, List, [], ◌∷◌}
use Rattle.abc_packet.specs.declared.packets.Packet.{Packet}
use Rattle.abc_packet.specs.declared.stamped.Stamped.{Stamped}
use Rattle.abc_packet.specs.declared.log.Deed.{Deed}
use Rattle.abc_packet.specs.declared.log.Deed.TheVariants.{Asked, Arrived, Took, Turned, Passed}
use Rattle.abc_packet.specs.declared.log.Deed.TheVariants.{Stray}
use Rattle.abc_packet.specs.declared.log.Entry.{Entry}
use Rattle.abc_packet.specs.Outlets.{Lists, Sends}
use Rattle.abc_network.specs.Networks.{Actor, Logs}

-- The table of an actor with states S: from a state, by a deed, with the packets sent, each on its
-- link, to a state.
abbrev pub Table : Type 0 → Type 0 → Type 1
Table S L = S → Deed L → List (ℕ × Packet L) → S → Type 0

-- The packet that a deed took, beside its link; none where it took none.
abbrev pub taken_by : {L : Type 0} → Deed L → List (ℕ × Stamped L)
taken_by (Arrived link stamped drew) = (link, stamped) ∷ []
taken_by (Stray link stamped) = (link, stamped) ∷ []
taken_by Asked = []
taken_by (Took n place) = []
taken_by (Turned n place content) = []
taken_by (Passed n) = []

-- Packets as they are sent: each on its link, all with this clock.
abbrev pub stamped_with : {L : Type 0} → ℕ → List (ℕ × Packet L) → List (ℕ × Stamped L)
stamped_with clock [] = []
stamped_with clock (s ∷ sends) =
    (s.0, record { clock = clock; packet = s.1 }) ∷ stamped_with clock sends

-- An actor makes one micro-step by its table, in which it takes these packets from links. It logs
-- one entry, and the lists of the links gain what it sends, with the entry's clock.
pub record Makes {S L : Type 0} (does : Table S L) (taken : List (ℕ × Stamped L))
    (old new : Actor S L) (before after : Lists L) : Type 0 where
  pub entry : Entry L
  pub sends : List (ℕ × Packet L)
  pub row : does old.state entry.deed sends new.state
  pub logs : Logs old entry new
  pub took : taken_by entry.deed ≡ taken
  pub lists : Sends before (stamped_with entry.clock sends) after
