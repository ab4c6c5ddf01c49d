-- The node of a ring.
use Rattle.std.specs.Prelude.{◌≡◌, ◌≢◌, ℕ, zero, suc, ◌+◌, ◌<◌, ◌==◌, List, [], ◌∷◌, ◌++◌, Option}
use Rattle.std.specs.Prelude.{Some, None, ◌⊎◌, if◌then◌else◌}
use Rattle.abc_value.specs.declared.grant.Grant.{Grant}
use Rattle.abc_packet.specs.declared.packets.Packet.{Packet}
use Rattle.abc_packet.specs.declared.packets.Packet.TheVariants.{Request, Reply, Message}
use Rattle.abc_shape.specs.declared.layout.Layout.{Layout}
use Rattle.abc_shape.specs.Plans.{home, successor}
use Rattle.abc_network.specs.Links.{to_home, from_home, to_successor}
use Rattle.abc_network.specs.Stores.{StoreKind}

-- A message comes on its sender's link to the sender's home, and from the predecessor everywhere
-- else.
pub record RingAccepts (p : Layout) (k l sender : ℕ) : Type 0 where
  pub node : k < p.nodes
  pub known : sender < p.agents
  pub comes :
      ((home p sender ≡ k) × (l ≡ to_home sender))
      ⊎ ((home p sender ≢ k)
      × ((j : ℕ) × (j < p.nodes) × (successor p j ≡ k) × (l ≡ to_successor p.agents j)))

-- A request of an agent that is homed here, on its link: the node draws, and replies. No reply
-- comes to it.
abbrev pub RingAsks : {L : Type 0} → Layout → ℕ → ℕ → Packet L → Option Grant →
    List (ℕ × Packet L) → Type 0
RingAsks p k l (Request agent) (Some grant) out =
    (agent < p.agents) × (home p agent ≡ k) × (l ≡ to_home agent)
    × (out ≡ (from_home agent, Reply agent grant) ∷ [])
RingAsks p k l (Request agent) None out = ⊥
RingAsks p k l (Reply agent grant) drew out = ⊥
RingAsks p k l (Message n sender content) drew out = ⊥

-- The links to those of `count` agents from agent i on that are homed at k, in order, but none to
-- the sender.
abbrev pub homed_from : Layout → ℕ → ℕ → ℕ → ℕ → List ℕ
homed_from p k sender i zero = []
homed_from p k sender i (suc count) =
    if i == sender then homed_from p k sender (i + 1) count
    else (if home p i == k then from_home i ∷ homed_from p k sender (i + 1) count
    else homed_from p k sender (i + 1) count)

-- A message goes to each agent homed here but the sender, and then to the successor, unless that is
-- the sender's home.
abbrev pub ring_outs : Layout → ℕ → ℕ → ℕ → List ℕ
ring_outs p k sender came =
    homed_from p k sender 0 p.agents
    ++ (if successor p k == home p sender then [] else to_successor p.agents k ∷ [])

abbrev pub ring_kind : {L : Type 0} → Layout → StoreKind L
ring_kind p = record { accepts = RingAccepts p; outs = ring_outs p; asking = RingAsks p }
