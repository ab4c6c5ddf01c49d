-- Nodes of any shape, and the node of a cluster, which keeps nothing beside its log.
use Rattle.std.specs.Prelude.{◌≡◌, ℕ, zero, suc, ◌+◌, ◌<◌, ◌==◌, List, [], ◌∷◌, Option, Some, None}
use Rattle.std.specs.Prelude.{if◌then◌else◌}
use Rattle.abc_value.specs.declared.grant.Grant.{Grant}
use Rattle.abc_packet.specs.declared.packets.Content.{Content}
use Rattle.abc_packet.specs.declared.packets.Packet.{Packet}
use Rattle.abc_packet.specs.declared.packets.Packet.TheVariants.{Request, Reply, Message}
use Rattle.abc_packet.specs.declared.log.Deed.{Deed}
use Rattle.abc_packet.specs.declared.log.Deed.TheVariants.{Asked, Arrived, Took, Turned, Passed}
use Rattle.abc_packet.specs.declared.log.Deed.TheVariants.{Stray}
use Rattle.abc_network.specs.Links.{to_agent, from_agent}

-- A node of any shape, with states N.
pub record NodeMachine (L N : Type 0) : Type 1 where
  -- the table of node k, by deed: from a state, with the packets sent, each on its link, to a state
  pub does : ℕ → N → Deed L → List (ℕ × Packet L) → N → Type 0
  -- which messages are stored: number, sender, content
  pub holds : N → ℕ → ℕ → Content L → Type 0
  -- whether a message can be passed on
  pub can_pass : N → Type 0

-- One copy of a packet to each of `count` agents from agent i on, in order, but none to the sender.
abbrev pub copies_from : {L : Type 0} → ℕ → ℕ → ℕ → ℕ → ℕ → Packet L → List (ℕ × Packet L)
copies_from nodes k sender i zero packet = []
copies_from nodes k sender i (suc count) packet =
    if i == sender then copies_from nodes k sender (i + 1) count packet
    else (to_agent nodes k i, packet) ∷ copies_from nodes k sender (i + 1) count packet

-- What the node of a cluster takes, by packet and by what it drew:
abbrev pub ClusterTakes : {L : Type 0} → ℕ → ℕ → ℕ → ℕ → Packet L → Option Grant →
    List (ℕ × Packet L) → Type 0
-- a request on the link of the agent that asks: it draws, and replies;
ClusterTakes agents nodes k link (Request agent) (Some grant) out =
    (agent < agents) × (link ≡ from_agent nodes k agent)
    × (out ≡ (to_agent nodes k agent, Reply agent grant) ∷ [])
-- a message on its sender's link: it goes to every agent but the sender, in order;
ClusterTakes agents nodes k link (Message n sender content) None out =
    (sender < agents) × (link ≡ from_agent nodes k sender)
    × (out ≡ copies_from nodes k sender 0 agents (Message n sender content))
-- and nothing else.
ClusterTakes agents nodes k link (Request agent) None out = ⊥
ClusterTakes agents nodes k link (Reply agent grant) drew out = ⊥
ClusterTakes agents nodes k link (Message n sender content) (Some grant) out = ⊥

-- The table of a cluster's node. It passes nothing on later.
abbrev pub ClusterDoes : {L : Type 0} → ℕ → ℕ → ℕ → Unit {0} → Deed L → List (ℕ × Packet L) →
    Unit {0} → Type 0
ClusterDoes agents nodes k s (Arrived link stamped drew) out s' =
    ClusterTakes agents nodes k link stamped.packet drew out
ClusterDoes {L} agents nodes k s (Stray link stamped) out s' =
    ((drew : Option Grant) (some : List (ℕ × Packet L)) →
    ClusterTakes agents nodes k link stamped.packet drew some → ⊥)
    × (out ≡ [])
ClusterDoes agents nodes k s Asked out s' = ⊥
ClusterDoes agents nodes k s (Took n place) out s' = ⊥
ClusterDoes agents nodes k s (Turned n place content) out s' = ⊥
ClusterDoes agents nodes k s (Passed n) out s' = ⊥

abbrev pub cluster_machine : {L : Type 0} → ℕ → ℕ → NodeMachine L (Unit {0})
cluster_machine agents nodes = record {
  does = ClusterDoes agents nodes;
  holds = λ s n sender content. ⊥;
  can_pass = λ s. ⊥;
}
