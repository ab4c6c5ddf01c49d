-- The place of a node in a tree, its links, and what it does by them.
use Rattle.std.specs.Prelude.{◌≡◌, ◌≢◌, ℕ, ◌<◌, ◌==◌, Bool, true, false, if◌then◌else◌}
use Rattle.abc_shape.specs.declared.shape.Shape.TheVariants.{Tree}
use Rattle.abc_shape.specs.declared.layout.Layout.{Layout}
use Rattle.abc_shape.specs.Plans.{IsLink, actor_of, home, step_up}
use Rattle.abc_shape.specs.Routes.{IsRoute}
use Rattle.abc_network.specs.Links.{to_home}
use Rattle.abc_network.specs.Trees.{ComesBack}

-- The plan of the tree, and the number of the node.
pub record Seat : Type 0 where
  pub plan : Layout
  pub node : ℕ

-- The plan is that of a tree, which has this node.
pub record IsSeat (p : Layout) (k : ℕ) : Type 0 where
  pub tree : p.shape ≡ Tree
  pub node : k < p.nodes

-- The link leads from the node.
abbrev pub LeavesFrom : Layout → ℕ → ℕ → Type 0
LeavesFrom p k link = (to : ℕ) × IsLink p link (actor_of p k) to

-- The link comes to the node, from a neighbour.
abbrev pub EndsAt : Layout → ℕ → ℕ → Type 0
EndsAt p k link = (from : ℕ) × IsLink p link from (actor_of p k)

-- The node has a parent, and the link comes from there.
abbrev pub IsFromParent : Layout → ℕ → ℕ → Type 0
IsFromParent p k link = (k ≢ 0) × IsLink p link (actor_of p (step_up k)) (actor_of p k)

-- What comes on the link comes from where the agent is: from the neighbour to which its route
-- leads.
abbrev pub ComesFrom : Layout → ℕ → ℕ → ℕ → ℕ → Type 0
ComesFrom p k link agent route =
    (agent < p.agents) × IsRoute p k agent route × ComesBack p k route link

-- What comes on the link comes from the parent, and goes on on the agent's route, which doesn't
-- lead to the parent.
abbrev pub GoesDown : Layout → ℕ → ℕ → ℕ → ℕ → Type 0
GoesDown p k link agent route =
    (agent < p.agents) × IsFromParent p k link × IsRoute p k agent route
    × (IsLink p route (actor_of p k) (actor_of p (step_up k)) → ⊥)

-- Whether a message goes on to this agent: it is homed at the node, and the message didn't come
-- from it.
abbrev pub goes_to : Layout → ℕ → ℕ → ℕ → Bool
goes_to p k came agent =
    if home p agent == k then (if came == to_home agent then false else true) else false
