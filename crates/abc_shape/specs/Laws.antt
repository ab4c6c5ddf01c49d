-- The limits of plans: what is just within each, and what is just past it.
use Rattle.abc_shape.specs.declared.shape.Shape.{Shape}
use Rattle.abc_shape.specs.Plans.{IsLayout, layout_of}

pub record LimitsOfPlans : Type 0 where
  pub least : (s : Shape) → IsLayout (layout_of s 1 1)
  pub most : (s : Shape) → IsLayout (layout_of s 256 64)
  pub no_agent : (s : Shape) → ¬ (IsLayout (layout_of s 0 1))
  pub no_node : (s : Shape) → ¬ (IsLayout (layout_of s 1 0))
  pub too_many_agents : (s : Shape) → ¬ (IsLayout (layout_of s 257 1))
  pub too_many_nodes : (s : Shape) → ¬ (IsLayout (layout_of s 1 65))
