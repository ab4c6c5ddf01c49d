-- The row of a cluster node's table for a packet.
use Rattle.std.specs.Prelude.{◌≡◌, ℕ, ◌<◌, List, [], ◌∷◌, Option, Some, None}
use Rattle.abc_value.specs.declared.grant.Grant.{Grant}
use Rattle.abc_packet.specs.declared.packets.Packet.{Packet}
use Rattle.abc_packet.specs.declared.packets.Packet.TheVariants.{Reply}
use Rattle.abc_network.specs.Links.{to_agent, from_agent}
use Rattle.abc_network.specs.Nodes.{ClusterTakes, copies_from}
use Rattle.abc_cluster.specs.Stations.{SeenStation}
use Rattle.abc_cluster.specs.declared.station.Row.{Row}
use Rattle.abc_cluster.specs.declared.station.Row.TheVariants.{Asks, Says, Other}

-- This is an agent of the plan, and its packets come to the node on this link.
abbrev pub ComesFrom : SeenStation → ℕ → ℕ → Type 0
ComesFrom s link agent =
    (agent < s.plan.agents) × (link ≡ from_agent s.plan.nodes s.number agent)

-- The node takes a packet on a link, with what it draws and sends for it.
abbrev pub Takes : {L : Type 0} → SeenStation → ℕ → Packet L → Option Grant →
    List (ℕ × Packet L) → Type 0
Takes s link packet drew sends =
    ClusterTakes s.plan.agents s.plan.nodes s.number link packet drew sends

-- A packet on a link has this row: whatever is drawn for a request goes to the agent that asks,
-- a message goes to all but its sender, and all else has no row, whatever is drawn and sent.
abbrev pub IsRow : {L : Type 0} → SeenStation → ℕ → Packet L → Row → Type 0
IsRow s link packet (Asks agent) =
    (agent < s.plan.agents) × ((grant : Grant) → Takes s link packet (Some grant)
    ((to_agent s.plan.nodes s.number agent, Reply agent grant) ∷ []))
IsRow s link packet (Says sender) = Takes s link packet None
    (copies_from s.plan.nodes s.number sender 0 s.plan.agents packet)
IsRow {L} s link packet Other =
    (drew : Option Grant) (sends : List (ℕ × Packet L)) → Takes s link packet drew sends → ⊥
