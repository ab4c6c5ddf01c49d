-- Laws of routes, and of the depth of trees.
use Rattle.std.specs.Prelude.{◌≡◌, ◌<◌, ◌≤◌, ℕ, List, length}
use Rattle.abc_shape.specs.declared.shape.Shape.TheVariants.{Ring}
use Rattle.abc_shape.specs.declared.layout.Layout.{Layout}
use Rattle.abc_shape.specs.Plans.{IsLayout, actor_of, home, IsLink}
use Rattle.abc_shape.specs.Routes.{IsRoute}
use Rattle.abc_shape_laws.specs.Ways.{FollowsRoutes, IsWayUp}

-- A node has one route to an agent.
abbrev pub RoutesAreOne : Type 0
RoutesAreOne =
    (p : Layout) (k i link link' : ℕ) → i < p.agents →
    IsRoute p k i link → IsRoute p k i link' → link ≡ link'

-- From every node, in a ring from the agent's home, the routes lead to the agent.
abbrev pub RoutesArrive : Type 0
RoutesArrive =
    (p : Layout) (k i : ℕ) → IsLayout p → k < p.nodes → i < p.agents → (p.shape ≡ Ring → k ≡ home p i) →
    (links : List ℕ) × FollowsRoutes p i k links

-- Where the route leads to another node, that node's route doesn't lead back.
abbrev pub RoutesGoOn : Type 0
RoutesGoOn =
    (p : Layout) (k next i link link' : ℕ) → i < p.agents →
    IsRoute p k i link → IsLink p link (actor_of p k) (actor_of p next) →
    IsRoute p next i link' → IsLink p link' (actor_of p next) (actor_of p k) → ⊥

-- From each agent's home there is a way up to the root,
abbrev pub WaysUpExist : Type 0
WaysUpExist = (p : Layout) (i : ℕ) → (way : List ℕ) × IsWayUp (home p i) way

-- and it has at most seven nodes.
abbrev pub WaysUpAreShort : Type 0
WaysUpAreShort = (p : Layout) (i : ℕ) (way : List ℕ) → IsLayout p → IsWayUp (home p i) way → length way ≤ 7
