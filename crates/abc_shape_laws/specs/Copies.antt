-- The paths of the copies of a message: on which links the nodes send it on, by the rules of each shape.
use Rattle.std.specs.Prelude.{◌≡◌, ◌≢◌, ◌<◌, ℕ, List, [], ◌∷◌}
use Rattle.abc_shape.specs.declared.shape.Shape.TheVariants.{Ring, Tree}
use Rattle.abc_shape.specs.declared.layout.Layout.{Layout}
use Rattle.abc_shape.specs.Plans.{actor_of, home, successor, IsLink}

-- Node k sends on this link the message of the sender that came to it on another link.
pub data SendsOn (p : Layout) (sender k came link : ℕ) : Type 0 where
  -- In a cluster and in a ring, to each agent that is linked to it, but the sender;
  to_agent : (i : ℕ) → p.shape ≢ Tree → i < p.agents → i ≢ sender → IsLink p link (actor_of p k) i → SendsOn p sender k came link
  -- in a ring, also to its successor, unless that is the sender's home;
  to_successor : p.shape ≡ Ring → successor p k ≢ home p sender → IsLink p link (actor_of p k) (actor_of p (successor p k)) →
      SendsOn p sender k came link
  -- in a tree, to every neighbour but the one from which it came.
  to_neighbour : (from to : ℕ) → p.shape ≡ Tree → IsLink p came from (actor_of p k) → IsLink p link (actor_of p k) to → to ≢ from →
      SendsOn p sender k came link

-- A copy of the sender's message that is on a link comes to an actor by these further links.
pub data Comes (p : Layout) (sender : ℕ) : ℕ → List ℕ → ℕ → Type 0 where
  -- The link leads there,
  there : (link from to : ℕ) → IsLink p link from to → Comes p sender link [] to
  -- or it leads to a node, which sends the message on.
  onward : (link from k next : ℕ) (more : List ℕ) (to : ℕ) → IsLink p link from (actor_of p k) → SendsOn p sender k link next →
      Comes p sender next more to → Comes p sender link (next ∷ more) to

-- The sender sends its message on this link, to a node.
abbrev pub IsSent : Layout → ℕ → ℕ → Type 0
IsSent p sender link = (sender < p.agents) × ((k : ℕ) × (k < p.nodes) × IsLink p link sender (actor_of p k))

-- A copy comes from the sender's link to an actor by one path, and by no other.
pub record ComesOnce (p : Layout) (sender link to : ℕ) : Type 0 where
  pub comes : (more : List ℕ) × Comes p sender link more to
  pub once : (more other : List ℕ) → Comes p sender link more to → Comes p sender link other to → more ≡ other
