-- Ways through a plan, by their links and by their nodes.
use Rattle.std.specs.Prelude.{◌<◌, ℕ, List, [], ◌∷◌}
use Rattle.abc_shape.specs.declared.layout.Layout.{Layout}
use Rattle.abc_shape.specs.Plans.{actor_of, step_up, IsLink}
use Rattle.abc_shape.specs.Routes.{IsRoute}

-- Who follows the routes to agent i from node k takes these links, of which the last leads to the agent.
pub data FollowsRoutes (p : Layout) (i : ℕ) : ℕ → List ℕ → Type 0 where
  arrives : (k link : ℕ) → IsRoute p k i link → IsLink p link (actor_of p k) i → FollowsRoutes p i k (link ∷ [])
  goes_on : (k next link : ℕ) (more : List ℕ) → IsRoute p k i link → IsLink p link (actor_of p k) (actor_of p next) →
      FollowsRoutes p i next more → FollowsRoutes p i k (link ∷ more)

-- These are the nodes on the way up from node k to the root, both among them: each is followed by its parent.
pub data IsWayUp : ℕ → List ℕ → Type 0 where
  at_root : IsWayUp 0 (0 ∷ [])
  to_parent : (k : ℕ) (more : List ℕ) → 0 < k → IsWayUp (step_up k) more → IsWayUp k (k ∷ more)
