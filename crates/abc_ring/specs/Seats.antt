-- The place of a node in a ring, its links, and what it does by them.
use Rattle.std.specs.Prelude.{◌≡◌, ℕ, ◌<◌, ◌==◌, Bool, false, if◌then◌else◌}
use Rattle.abc_shape.specs.declared.shape.Shape.TheVariants.{Ring}
use Rattle.abc_shape.specs.declared.layout.Layout.{Layout}
use Rattle.abc_shape.specs.Plans.{IsLink, actor_of, home, successor}
use Rattle.abc_network.specs.Links.{to_home, to_successor}

-- The plan of the ring, and the number of the node.
pub record Seat : Type 0 where
  pub plan : Layout
  pub node : ℕ

-- The plan is that of a ring, which has this node.
pub record IsSeat (p : Layout) (k : ℕ) : Type 0 where
  pub ring : p.shape ≡ Ring
  pub node : k < p.nodes

-- The link leads from the node.
abbrev pub LeavesFrom : Layout → ℕ → ℕ → Type 0
LeavesFrom p k link = (to : ℕ) × IsLink p link (actor_of p k) to

-- The link comes from the node's predecessor.
abbrev pub IsFromBefore : Layout → ℕ → ℕ → Type 0
IsFromBefore p k l =
    (j : ℕ) × (j < p.nodes) × (successor p j ≡ k) × (l ≡ to_successor p.agents j)

-- The agent is homed at the node, and the link comes from it.
abbrev pub AsksHere : Layout → ℕ → ℕ → ℕ → Type 0
AsksHere p k l agent = (agent < p.agents) × (home p agent ≡ k) × (l ≡ to_home agent)

-- Whether a message goes on to this agent: it is homed at the node, and not the sender.
abbrev pub goes_to : Layout → ℕ → ℕ → ℕ → Bool
goes_to p k sender agent = if agent == sender then false else (home p agent == k)
