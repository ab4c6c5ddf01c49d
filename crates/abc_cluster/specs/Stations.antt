-- The node of a cluster, as contracts see it.
use Rattle.std.specs.Prelude.{◌≡◌, ℕ, ◌<◌, List, [], Option}
use Rattle.abc_value.specs.declared.grant.Grant.{Grant}
use Rattle.abc_packet.specs.declared.packets.Packet.{Packet}
use Rattle.abc_packet.specs.declared.stamped.Stamped.{Stamped}
use Rattle.abc_packet.specs.declared.log.Deed.TheVariants.{Passed}
use Rattle.abc_packet.specs.Outlets.{Lists}
use Rattle.abc_shape.specs.declared.shape.Shape.TheVariants.{Cluster}
use Rattle.abc_shape.specs.declared.layout.Layout.{Layout}
use Rattle.abc_shape.specs.Plans.{actor_of}
use Rattle.abc_network.specs.Networks.{Actor}
use Rattle.abc_network.specs.Nodes.{ClusterDoes}
use Rattle.abc_logs.specs.MicroSteps.{Table}
use Rattle.abc_history.specs.Histories.{Past}
use Rattle.abc_history.specs.Nodes.{Arrives, acting}
use Rattle.abc_history.specs.Outs.{HasLinksFrom}

-- Where a node is: the plan of its network, and its number there.
pub record SeenStation : Type 0 where
  pub plan : Layout
  pub number : ℕ

-- The plan is a cluster's, and has a node of this number.
pub record IsStation (p : Layout) (k : ℕ) : Type 0 where
  pub shape : p.shape ≡ Cluster
  pub there : k < p.nodes

-- The table of node k in a cluster of this plan.
abbrev pub table_of : {L : Type 0} → Layout → ℕ → Table (Unit {0}) L
table_of p k = ClusterDoes p.agents p.nodes k

-- No row of it passes a message on that waits.
abbrev pub PassesNothing : {L : Type 0} → Table (Unit {0}) L → Type 0
PassesNothing {L} does =
    (n : ℕ) (sends : List (ℕ × Packet L)) → does tt (Passed n) sends tt → ⊥

-- At the start it has done nothing.
abbrev pub starting_node : {L : Type 0} → Actor (Unit {0}) L
starting_node = record { state = tt; clock = 0; log = [] }

-- Among these links are all that lead from node k.
abbrev pub HasLinksOf : Layout → ℕ → (ℕ → Type 0) → Type 0
HasLinksOf p k has = HasLinksFrom p (actor_of p k) has

-- A packet arrives at a node, which is there and has this history: one micro-step of its table.
abbrev pub ArrivesAt : {L : Type 0} → SeenStation → ℕ → Stamped L → Past L → Past L →
    Lists L → Lists L → (Option Grant → Type 0) → Type 0
ArrivesAt s link stamped old new before after drew =
    Arrives (table_of s.plan s.number) link stamped (acting tt old) (acting tt new) before after
    drew
