-- The laws, as they are stated for every body.
use Rattle.std.specs.Prelude.{ℕ, ◌<◌, ◌≤◌}
use Rattle.abc_body.specs.Meanings.{Meaning}
use Rattle.abc_shape.specs.declared.layout.TheConstants.{MOST_NODES}
use Rattle.abc_network.specs.Shapes.{cluster_rules, ring_rules, tree_rules}
use Rattle.abc_network_laws.specs.Simulation.{Simulates}
use Rattle.abc_network_laws.specs.Settling.{Settles}
use Rattle.abc_network_laws.specs.Bounding.{Bounded}

-- Every run of a cluster is a run of the multicast of its bodies.
abbrev pub ClusterSimulates : {B L : Type 0} → Meaning B L → Type 0
ClusterSimulates m = (agents nodes limit pick : ℕ) →
    Simulates m (cluster_rules agents nodes limit pick)

-- In every run of a cluster nothing is astray, and where nothing can go on the network is quiet.
abbrev pub ClusterSettles : {B L : Type 0} → Meaning B L → Type 0
ClusterSettles m = (agents nodes limit pick : ℕ) → 0 < nodes →
    Settles m (cluster_rules agents nodes limit pick)

-- The same of a ring.
abbrev pub RingSimulates : {B L : Type 0} → Meaning B L → Type 0
RingSimulates m = (agents nodes limit pick : ℕ) → 0 < nodes →
    Simulates m (ring_rules agents nodes limit pick)

abbrev pub RingSettles : {B L : Type 0} → Meaning B L → Type 0
RingSettles m = (agents nodes limit pick : ℕ) → 0 < nodes →
    Settles m (ring_rules agents nodes limit pick)

-- And of a tree.
abbrev pub TreeSimulates : {B L : Type 0} → Meaning B L → Type 0
TreeSimulates m = (agents nodes limit pick : ℕ) → 0 < nodes →
    Simulates m (tree_rules agents nodes limit pick)

abbrev pub TreeSettles : {B L : Type 0} → Meaning B L → Type 0
TreeSettles m = (agents nodes limit pick : ℕ) → 0 < nodes →
    Settles m (tree_rules agents nodes limit pick)

-- Runs of a cluster have a bound on their events.
abbrev pub ClusterIsBounded : {B L : Type 0} → Meaning B L → Type 0
ClusterIsBounded m = (agents nodes limit pick : ℕ) → 0 < nodes →
    Bounded m (cluster_rules agents nodes limit pick)

abbrev pub RingIsBounded : {B L : Type 0} → Meaning B L → Type 0
RingIsBounded m = (agents nodes limit pick : ℕ) → 0 < nodes →
    Bounded m (ring_rules agents nodes limit pick)

-- A tree has at most 64 nodes, so that a request comes to the root, and its reply to the agent, in
-- 14 hops.
abbrev pub TreeIsBounded : {B L : Type 0} → Meaning B L → Type 0
TreeIsBounded m =
    (agents nodes limit pick : ℕ) → 0 < nodes → nodes ≤ MOST_NODES →
    Bounded m (tree_rules agents nodes limit pick)
