-- How a stamped packet is kept: the agent that it names, and what it carries beside.
use Rattle.std.specs.Prelude.{ℕ}
use Rattle.abc_value.specs.declared.grant.Grant.TheVariants.{Number, Closed}
use Rattle.abc_packet.specs.declared.packets.Content.TheVariants.{Said, Empty}
use Rattle.abc_packet.specs.declared.packets.Packet.{Packet}
use Rattle.abc_packet.specs.declared.packets.Packet.TheVariants.{Request, Reply, Message}
use Rattle.abc_packet.specs.declared.carried.Carried.{Carried}
use Rattle.abc_packet.specs.declared.carried.Carried.TheVariants.{Asks, Grants, Closes}
use Rattle.abc_packet.specs.declared.carried.Carried.TheVariants.{Says, SaysNothing}

-- The packet that names this agent and carries this.
abbrev pub packet_of : {L : Type 0} → ℕ → Carried L → Packet L
packet_of agent Asks = Request agent
packet_of agent (Grants number) = Reply agent (Number number)
packet_of agent Closes = Reply agent Closed
packet_of agent (Says number label) = Message number agent (Said label)
packet_of agent (SaysNothing number) = Message number agent Empty
