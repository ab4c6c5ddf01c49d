-- Records of each shape end right.
use Rattle.abc_shape.specs.declared.shape.Shape.TheVariants.{Ring, Tree}
use Rattle.abc_shape.specs.Plans.{layout_of}
use Rattle.abc_body.specs.Meanings.{Meaning}
use Rattle.abc_network.specs.Links.{to_home}
use Rattle.abc_network.specs.Shapes.{cluster_rules, ring_rules, tree_rules}
use Rattle.abc_network_laws.specs.ClusterFlows.{cluster_flow}
use Rattle.abc_network_laws.specs.StoreFlows.{store_flow}
use Rattle.abc_network_laws.specs.RingFlows.{ring}
use Rattle.abc_network_laws.specs.TreeFlows.{tree}
use Rattle.abc_network_laws.proofs.Cluster.{cluster-relays}
use Rattle.abc_network_laws.proofs.ClusterFlow.{cluster-ways, cluster-carries, cluster-ends}
use Rattle.abc_network_laws.proofs.StoreLaws.{store-relays, store-carries, store-ends}
use Rattle.abc_network_laws.proofs.RingRows.{ring-laws, ring-ways}
use Rattle.abc_network_laws.proofs.TreeRows.{tree-laws, tree-ways}
use Rattle.abc_schedule.proofs.ByShape.{cluster-records, ring-records, tree-records}
use Rattle.abc_schedule.proofs.Joined.{has-schedules}
use Rattle.abc_schedule.proofs.Own.{cluster-own, ring-own, tree-own}
use Rattle.abc_record_ends.specs.Ends.{RecordsEndRight}
use Rattle.abc_record_ends.proofs.Rows.{cluster-closes, ring-closes, tree-closes}
use Rattle.abc_record_ends.proofs.Ending.{ends-right}

-- The law of all shapes, for every body.
pub records-end-right : {B L : Type 0} (m : Meaning B L) → RecordsEndRight m
records-end-right m = record {
  clusters = λ agents nodes limit pick layout.
      let some = layout.some_nodes in
      let rules = cluster_rules agents nodes limit pick in
      let schedules = has-schedules m rules (cluster-own agents nodes limit pick some) layout in
      ends-right m rules (cluster_flow agents nodes) (cluster-ways agents nodes limit pick some)
      (cluster-carries agents nodes limit pick some) (cluster-ends agents nodes limit pick some)
      (cluster-relays agents nodes) (cluster-closes agents nodes) schedules.back
      (cluster-records m agents nodes limit pick layout);
  rings = λ agents nodes limit pick layout.
      let some = layout.some_nodes in
      let rules = ring_rules agents nodes limit pick in
      let laws = ring-laws agents nodes some in
      let plan = layout_of Ring agents nodes in
      let schedules = has-schedules m rules (ring-own agents nodes limit pick some) layout in
      ends-right m rules (store_flow (ring agents nodes)) (ring-ways agents nodes limit pick)
      (store-carries (ring agents nodes) plan laws limit pick (λ i packets. to_home i))
      (store-ends (ring agents nodes) plan laws limit pick (λ i packets. to_home i))
      (store-relays (ring agents nodes) plan laws) (ring-closes plan) schedules.back
      (ring-records m agents nodes limit pick layout);
  trees = λ agents nodes limit pick layout.
      let some = layout.some_nodes in
      let rules = tree_rules agents nodes limit pick in
      let laws = tree-laws agents nodes some in
      let plan = layout_of Tree agents nodes in
      let schedules = has-schedules m rules (tree-own agents nodes limit pick) layout in
      ends-right m rules (store_flow (tree agents nodes)) (tree-ways agents nodes limit pick)
      (store-carries (tree agents nodes) plan laws limit pick (λ i packets. to_home i))
      (store-ends (tree agents nodes) plan laws limit pick (λ i packets. to_home i))
      (store-relays (tree agents nodes) plan laws) (tree-closes plan) schedules.back
      (tree-records m agents nodes limit pick layout);
}
