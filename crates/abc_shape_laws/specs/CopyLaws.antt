-- Laws of the copies of a message.
use Rattle.std.specs.Prelude.{◌≡◌, ◌≢◌, ◌<◌, ℕ, List}
use Rattle.abc_shape.specs.declared.shape.Shape.TheVariants.{Cluster, Ring, Tree}
use Rattle.abc_shape.specs.declared.layout.Layout.{Layout}
use Rattle.abc_shape.specs.Plans.{IsLayout, actor_of}
use Rattle.abc_shape_laws.specs.Copies.{Comes, IsSent, ComesOnce}

-- From the sender's link a copy comes to each other agent by one path, and none to the sender.
pub record ReachesAgents (p : Layout) (sender link : ℕ) : Type 0 where
  pub others : (i : ℕ) → i < p.agents → i ≢ sender → ComesOnce p sender link i
  pub not_itself : (more : List ℕ) → Comes p sender link more sender → ⊥

-- One comes to each node by one path.
abbrev pub ReachesNodes : Layout → ℕ → ℕ → Type 0
ReachesNodes p sender link = (k : ℕ) → k < p.nodes → ComesOnce p sender link (actor_of p k)

-- In a cluster, on whichever link the sender sends,
abbrev pub ClusterCopies : Type 0
ClusterCopies = (p : Layout) (sender link : ℕ) → IsLayout p → p.shape ≡ Cluster → IsSent p sender link → ReachesAgents p sender link

-- in a ring,
abbrev pub RingCopies : Type 0
RingCopies = (p : Layout) (sender link : ℕ) → IsLayout p → p.shape ≡ Ring → IsSent p sender link →
    ReachesAgents p sender link × ReachesNodes p sender link

-- and in a tree.
abbrev pub TreeCopies : Type 0
TreeCopies = (p : Layout) (sender link : ℕ) → IsLayout p → p.shape ≡ Tree → IsSent p sender link →
    ReachesAgents p sender link × ReachesNodes p sender link
