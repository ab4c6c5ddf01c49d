-- The networks of each shape have the laws that a network on one thread needs.
use Rattle.std.specs.Prelude.{◌≡◌, ℕ}
use Rattle.abc_shape.specs.declared.shape.Shape.TheVariants.{Cluster, Ring, Tree}
use Rattle.abc_shape.specs.declared.layout.Layout.{Layout}
use Rattle.abc_shape.specs.Plans.{IsLayout}
use Rattle.abc_body.specs.Meanings.{Meaning}
use Rattle.abc_network.specs.Nodes.{cluster_machine}
use Rattle.abc_network.specs.Stores.{store_machine, blank_store}
use Rattle.abc_network.specs.Rings.{ring_kind}
use Rattle.abc_network.specs.Trees.{tree_kind}
use Rattle.abc_world.specs.Runnings.{rules_of}
use Rattle.abc_world.specs.Starting.{HasLaws}

-- Those of a cluster,
abbrev pub ClusterHasLaws : {B L : Type 0} → Meaning B L → Type 0
ClusterHasLaws m =
    (p : Layout) (limit pick : ℕ) → IsLayout p → p.shape ≡ Cluster →
    HasLaws m (rules_of (λ q. cluster_machine q.agents q.nodes) tt p limit pick)

-- of a ring
abbrev pub RingHasLaws : {B L : Type 0} → Meaning B L → Type 0
RingHasLaws m =
    (p : Layout) (limit pick : ℕ) → IsLayout p → p.shape ≡ Ring →
    HasLaws m (rules_of (λ q. store_machine (ring_kind q)) blank_store p limit pick)

-- and of a tree.
abbrev pub TreeHasLaws : {B L : Type 0} → Meaning B L → Type 0
TreeHasLaws m =
    (p : Layout) (limit pick : ℕ) → IsLayout p → p.shape ≡ Tree →
    HasLaws m (rules_of (λ q. store_machine (tree_kind q)) blank_store p limit pick)
