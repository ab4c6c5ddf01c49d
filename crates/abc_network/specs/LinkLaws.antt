-- The numbers of links, by the tables of plans.
use Rattle.std.specs.Prelude.{◌≢◌, ℕ, ◌<◌}
use Rattle.abc_shape.specs.declared.shape.Shape.{Shape}
use Rattle.abc_shape.specs.declared.shape.Shape.TheVariants.{Cluster, Ring, Tree}
use Rattle.abc_shape.specs.Plans.{IsLink, layout_of, actor_of, home, successor, step_up}
use Rattle.abc_network.specs.Links.{to_agent, from_agent, to_home, from_home, to_successor}
use Rattle.abc_network.specs.Links.{to_parent, from_parent}

-- Each link on which an agent or a node sends leads from it to where the packet is to go.
pub record LinksHaveTheirEnds : Type 0 where
  pub from_agents : (agents nodes k i : ℕ) → i < agents → k < nodes →
      IsLink (layout_of Cluster agents nodes) (from_agent nodes k i) i
      (actor_of (layout_of Cluster agents nodes) k)
  pub to_agents : (agents nodes k i : ℕ) → i < agents → k < nodes →
      IsLink (layout_of Cluster agents nodes) (to_agent nodes k i)
      (actor_of (layout_of Cluster agents nodes) k) i
  pub to_homes : (s : Shape) (agents nodes i : ℕ) → s ≢ Cluster → i < agents →
      IsLink (layout_of s agents nodes) (to_home i) i
      (actor_of (layout_of s agents nodes) (home (layout_of s agents nodes) i))
  pub from_homes : (s : Shape) (agents nodes i : ℕ) → s ≢ Cluster → i < agents →
      IsLink (layout_of s agents nodes) (from_home i)
      (actor_of (layout_of s agents nodes) (home (layout_of s agents nodes) i)) i
  pub to_successors : (agents nodes k : ℕ) → 1 < nodes → k < nodes →
      IsLink (layout_of Ring agents nodes) (to_successor agents k)
      (actor_of (layout_of Ring agents nodes) k)
      (actor_of (layout_of Ring agents nodes) (successor (layout_of Ring agents nodes) k))
  pub to_parents : (agents nodes k : ℕ) → 0 < k → k < nodes →
      IsLink (layout_of Tree agents nodes) (to_parent agents k)
      (actor_of (layout_of Tree agents nodes) k)
      (actor_of (layout_of Tree agents nodes) (step_up k))
  pub from_parents : (agents nodes k : ℕ) → 0 < k → k < nodes →
      IsLink (layout_of Tree agents nodes) (from_parent agents k)
      (actor_of (layout_of Tree agents nodes) (step_up k))
      (actor_of (layout_of Tree agents nodes) k)
