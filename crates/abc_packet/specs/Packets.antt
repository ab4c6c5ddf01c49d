-- Packets as they go over links.
use Rattle.std.specs.Prelude.{ℕ, ◌≤◌}
use Rattle.abc_value.specs.declared.grant.Grant.{Grant}
use Rattle.abc_value.specs.declared.grant.Grant.TheVariants.{Number, Closed}
use Rattle.abc_packet.specs.declared.limits.TheConstants.{MOST_CLOCK, MOST_NUMBER}
use Rattle.abc_packet.specs.declared.packets.Packet.{Packet}
use Rattle.abc_packet.specs.declared.packets.Packet.TheVariants.{Request, Reply, Message}

-- The number of a grant; 0 where it is none.
abbrev pub grant_number : Grant → ℕ
grant_number (Number n) = n
grant_number Closed = 0

-- The sequence number in a packet; 0 where it has none.
abbrev pub packet_number : {L : Type 0} → Packet L → ℕ
packet_number (Request agent) = 0
packet_number (Reply agent grant) = grant_number grant
packet_number (Message number sender content) = number

-- A clock and the sequence number in a packet are at most the greatest that there are.
abbrev pub AreWithin : {L : Type 0} → ℕ → Packet L → Type 0
AreWithin clock packet = (clock ≤ MOST_CLOCK) × (packet_number packet ≤ MOST_NUMBER)

-- A packet with the logical clock of its sending.
pub record Stamp (L : Type 0) : Type 0 where
  pub clock : ℕ
  pub packet : Packet L
