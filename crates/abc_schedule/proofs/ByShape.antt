-- The laws of records in each shape.
use Rattle.abc_shape.specs.declared.shape.Shape.TheVariants.{Ring, Tree}
use Rattle.abc_shape.specs.Plans.{layout_of}
use Rattle.abc_body.specs.Meanings.{Meaning}
use Rattle.abc_network.specs.Links.{to_home}
use Rattle.abc_network.specs.Shapes.{cluster_rules, ring_rules, tree_rules}
use Rattle.abc_network_laws.specs.ClusterFlows.{cluster_flow}
use Rattle.abc_network_laws.specs.StoreFlows.{store_flow}
use Rattle.abc_network_laws.specs.RingFlows.{ring}
use Rattle.abc_network_laws.specs.TreeFlows.{tree}
use Rattle.abc_network_laws.proofs.Cluster.{cluster-relays}
use Rattle.abc_network_laws.proofs.ClusterFlow.{cluster-ways, cluster-carries, cluster-ends}
use Rattle.abc_network_laws.proofs.StoreLaws.{store-relays, store-carries, store-ends, blank-holds}
use Rattle.abc_network_laws.proofs.RingRows.{ring-laws, ring-ways}
use Rattle.abc_network_laws.proofs.TreeRows.{tree-laws, tree-ways}
use Rattle.abc_network_laws.proofs.Settles.{settled}
use Rattle.abc_schedule.specs.Laws.{ClusterRecords, RingRecords, TreeRecords}
use Rattle.abc_schedule.proofs.Own.{cluster-own, ring-own, tree-own}
use Rattle.abc_schedule.proofs.Legality.{keeps-records}

-- Of a cluster,
pub cluster-records : {B L : Type 0} (m : Meaning B L) → ClusterRecords m
cluster-records m = λ agents nodes limit pick layout.
    let some = layout.some_nodes in
    keeps-records m (cluster_rules agents nodes limit pick) (cluster-own agents nodes limit pick some) layout
    (cluster-relays agents nodes) (λ n sender content has. absurd has)
    (λ bodies es w many run.
    settled m (cluster_rules agents nodes limit pick) (cluster_flow agents nodes)
    (cluster-ways agents nodes limit pick some) (cluster-carries agents nodes limit pick some)
    (cluster-ends agents nodes limit pick some) (cluster-relays agents nodes) bodies many es w run)

-- of a ring
pub ring-records : {B L : Type 0} (m : Meaning B L) → RingRecords m
ring-records m = λ agents nodes limit pick layout.
    let some = layout.some_nodes in
    let laws = ring-laws agents nodes some in
    let plan = layout_of Ring agents nodes in
    keeps-records m (ring_rules agents nodes limit pick) (ring-own agents nodes limit pick some) layout
    (store-relays (ring agents nodes) plan laws) (blank-holds (ring agents nodes))
    (λ bodies es w many run.
    settled m (ring_rules agents nodes limit pick) (store_flow (ring agents nodes))
    (ring-ways agents nodes limit pick)
    (store-carries (ring agents nodes) plan laws limit pick (λ i packets. to_home i))
    (store-ends (ring agents nodes) plan laws limit pick (λ i packets. to_home i))
    (store-relays (ring agents nodes) plan laws) bodies many es w run)

-- and of a tree.
pub tree-records : {B L : Type 0} (m : Meaning B L) → TreeRecords m
tree-records m = λ agents nodes limit pick layout.
    let some = layout.some_nodes in
    let laws = tree-laws agents nodes some in
    let plan = layout_of Tree agents nodes in
    keeps-records m (tree_rules agents nodes limit pick) (tree-own agents nodes limit pick) layout
    (store-relays (tree agents nodes) plan laws) (blank-holds (tree agents nodes))
    (λ bodies es w many run.
    settled m (tree_rules agents nodes limit pick) (store_flow (tree agents nodes))
    (tree-ways agents nodes limit pick)
    (store-carries (tree agents nodes) plan laws limit pick (λ i packets. to_home i))
    (store-ends (tree agents nodes) plan laws limit pick (λ i packets. to_home i))
    (store-relays (tree agents nodes) plan laws) bodies many es w run)
