-- The tables of the nodes of each shape are tables of nodes.
use Rattle.std.proofs.Common.{◌≡◌, ℕ, List, subst}
use Rattle.std.specs.Prelude.{Some}
use Rattle.abc_packet.specs.declared.packets.Packet.{Packet}
use Rattle.abc_packet.specs.declared.log.Deed.{Deed}
use Rattle.abc_packet.specs.declared.log.Deed.TheVariants.{Asked, Arrived, Took, Turned, Passed, Stray}
use Rattle.abc_shape.specs.declared.layout.Layout.{Layout}
use Rattle.abc_wait.specs.Waits.{item_beside}
use Rattle.abc_network.specs.Nodes.{ClusterDoes, cluster_machine}
use Rattle.abc_network.specs.Stores.{Store, StoreKind, StoreDoes, store_machine}
use Rattle.abc_world.specs.Kinds.{IsPass}
use Rattle.abc_world.specs.Runnings.{IsNodeDeed, AreNodeTables}

-- The deeds of a cluster's node,
cluster_deeds : {L : Type 0} (agents nodes k : ℕ) (s : Unit {0}) (d : Deed L) (out : List (ℕ × Packet L)) (s' : Unit {0}) →
    ClusterDoes agents nodes k s d out s' → IsNodeDeed d
cluster_deeds agents nodes k s Asked out s' row = row
cluster_deeds agents nodes k s (Arrived link stamped drew) out s' row = tt
cluster_deeds agents nodes k s (Took n place) out s' row = row
cluster_deeds agents nodes k s (Turned n place content) out s' row = row
cluster_deeds agents nodes k s (Passed n) out s' row = tt
cluster_deeds agents nodes k s (Stray link stamped) out s' row = tt

-- which passes nothing on later.
cluster_passes : {L : Type 0} (agents nodes k : ℕ) (s : Unit {0}) (d : Deed L) (out : List (ℕ × Packet L)) (s' : Unit {0}) →
    ClusterDoes agents nodes k s d out s' → IsPass d → ⊥
cluster_passes agents nodes k s Asked out s' row is = is
cluster_passes agents nodes k s (Arrived link stamped drew) out s' row is = is
cluster_passes agents nodes k s (Took n place) out s' row is = is
cluster_passes agents nodes k s (Turned n place content) out s' row is = is
cluster_passes agents nodes k s (Passed n) out s' row is = row
cluster_passes agents nodes k s (Stray link stamped) out s' row is = is

pub cluster_tables : {L : Type 0} → AreNodeTables (λ (p : Layout). cluster_machine {L = L} p.agents p.nodes)
cluster_tables = record {
  deeds = λ p k s d out s' row. cluster_deeds p.agents p.nodes k s d out s' row;
  passes = λ p k s d out s' row is. cluster_passes p.agents p.nodes k s d out s' row is;
}

-- The deeds of a node that stores messages,
store_deeds : {L : Type 0} (g : StoreKind L) (k : ℕ) (s : Store L) (d : Deed L) (out : List (ℕ × Packet L)) (s' : Store L) →
    StoreDoes g k s d out s' → IsNodeDeed d
store_deeds g k s Asked out s' row = row
store_deeds g k s (Arrived link stamped drew) out s' row = tt
store_deeds g k s (Took n place) out s' row = row
store_deeds g k s (Turned n place content) out s' row = row
store_deeds g k s (Passed n) out s' row = tt
store_deeds g k s (Stray link stamped) out s' row = tt

-- which passes on what it stores.
store_passes : {L : Type 0} (g : StoreKind L) (k : ℕ) (s : Store L) (d : Deed L) (out : List (ℕ × Packet L)) (s' : Store L) →
    StoreDoes g k s d out s' → IsPass d → (store_machine g).can_pass s
store_passes g k s Asked out s' row is = absurd is
store_passes g k s (Arrived link stamped drew) out s' row is = absurd is
store_passes g k s (Took n place) out s' row is = absurd is
store_passes g k s (Turned n place content) out s' row is = absurd is
store_passes g k s (Passed n) out s' row is =
    (row.item, subst (λ v. item_beside s.stored v ≡ Some row.item) row.is_next row.waits)
store_passes g k s (Stray link stamped) out s' row is = absurd is

pub store_tables : {L : Type 0} (kind : Layout → StoreKind L) → AreNodeTables (λ p. store_machine (kind p))
store_tables kind = record {
  deeds = λ p k s d out s' row. store_deeds (kind p) k s d out s' row;
  passes = λ p k s d out s' row is. store_passes (kind p) k s d out s' row is;
}
