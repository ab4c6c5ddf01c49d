-- The ways through a plan: from a node towards an agent.
use Rattle.std.specs.Prelude.{◌≡◌, ℕ, zero, suc, ◌<◌}
use Rattle.abc_shape.specs.declared.shape.Shape.TheVariants.{Tree}
use Rattle.abc_shape.specs.declared.layout.Layout.{Layout}
use Rattle.abc_shape.specs.Plans.{actor_of, home, step_up, IsLink}

-- So many steps up in a tree; the root stays.
abbrev pub steps_up : ℕ → ℕ → ℕ
steps_up zero k = k
steps_up (suc more) k = steps_up more (step_up k)

-- Node k is in the subtree below a node, which is the top of it: some steps up from k lead there.
abbrev pub IsUnder : ℕ → ℕ → Type 0
IsUnder top k = (steps : ℕ) × (steps_up steps k ≡ top)

-- Node c is a child of node k.
abbrev pub IsChild : ℕ → ℕ → Type 0
IsChild k c = (0 < c) × (step_up c ≡ k)

-- Node k sends on this link what is for agent i.
pub data IsRoute (p : Layout) (k i link : ℕ) : Type 0 where
  -- The link to the agent, where there is one: in a cluster everywhere, in a ring and in a tree at the agent's home.
  direct : IsLink p link (actor_of p k) i → IsRoute p k i link
  -- Elsewhere in a tree, the link to the one neighbour from which the home is reached without coming back: to the child
  -- in whose subtree the home is,
  down : (c : ℕ) → p.shape ≡ Tree → IsChild k c → IsUnder c (home p i) → IsLink p link (actor_of p k) (actor_of p c) → IsRoute p k i link
  -- and else to the parent.
  up : p.shape ≡ Tree → (IsUnder k (home p i) → ⊥) → IsLink p link (actor_of p k) (actor_of p (step_up k)) → IsRoute p k i link
