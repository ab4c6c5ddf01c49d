-- Which links end at an agent and at a node of a ring, by number.
use Rattle.std.proofs.Common.{◌≡◌, ℕ, ◌+◌, ◌*◌, ◌<◌, refl, sym, ap, ◌∙◌, arith, inl, inr}
use Rattle.std.specs.Prelude.{◌⊎◌}
use Rattle.abc_shape.specs.declared.shape.Shape.TheVariants.{Ring}
use Rattle.abc_shape.specs.Plans.{IsLink, cluster_up, cluster_down, home_up, home_down, along}
use Rattle.abc_shape.specs.Plans.{tree_up, tree_down, layout_of, home, successor}
use Rattle.abc_network.specs.Links.{to_home, from_home, to_successor}
use Rattle.abc_network.specs.Networks.{EndsAtAgent, EndsAtNode}

-- A link that ends at an agent comes from its home.
agent-ends : (agents nodes i l from to : ℕ) → i < agents → to ≡ i →
    IsLink (layout_of Ring agents nodes) l from to → l ≡ from_home i
agent-ends agents nodes i l from to low is (cluster_up j k shape a b f t n) = absurd (cc)
agent-ends agents nodes i l from to low is (cluster_down j k shape a b f t n) = absurd (cc)
agent-ends agents nodes i l from to low is (home_up j shape a f t n) = absurd (omega arith)
agent-ends agents nodes i l from to low is (home_down j shape a f t n) = let same : j ≡ i =
    sym t ∙ is in n ∙ ap (λ v. 2 * v + 1) same
agent-ends agents nodes i l from to low is (along k shape a b f t n) = absurd (omega arith)
agent-ends agents nodes i l from to low is (tree_up k shape a b f t n) = absurd (cc)
agent-ends agents nodes i l from to low is (tree_down k shape a b f t n) = absurd (cc)

-- A link ends at node k: from an agent that is homed there, or from the node before.
abbrev pub RingEnd : ℕ → ℕ → ℕ → ℕ → Type 0
RingEnd agents nodes k l =
    ((i : ℕ) × (i < agents) × (home (layout_of Ring agents nodes) i ≡ k) × (l ≡ to_home i))
    ⊎ ((j : ℕ) × (1 < nodes) × (j < nodes) × (successor (layout_of Ring agents nodes) j ≡ k)
    × (l ≡ to_successor agents j))

-- What links end at a node.
node-ends : (agents nodes k l from to : ℕ) → to ≡ agents + k →
    IsLink (layout_of Ring agents nodes) l from to → RingEnd agents nodes k l
node-ends agents nodes k l from to is (cluster_up i j shape a b f t n) = absurd (cc)
node-ends agents nodes k l from to is (cluster_down i j shape a b f t n) = absurd (cc)
node-ends agents nodes k l from to is (home_up i shape a f t n) =
    let h : home (layout_of Ring agents nodes) i ≡ k = omega arith in inl (i, a, h, n)
node-ends agents nodes k l from to is (home_down i shape a f t n) = absurd (omega arith)
node-ends agents nodes k l from to is (along j shape a b f t n) =
    let h : successor (layout_of Ring agents nodes) j ≡ k = omega arith in inr (j, a, b, h, n)
node-ends agents nodes k l from to is (tree_up j shape a b f t n) = absurd (cc)
node-ends agents nodes k l from to is (tree_down j shape a b f t n) = absurd (cc)

-- The links that end at an agent.
pub ring-to-agent : (agents nodes i l : ℕ) → EndsAtAgent (layout_of Ring agents nodes) i l →
    l ≡ from_home i
ring-to-agent agents nodes i l h = agent-ends agents nodes i l h.1.0 i h.0 refl h.1.1

-- The links that end at a node.
pub ring-to-node : (agents nodes k l : ℕ) → EndsAtNode (layout_of Ring agents nodes) k l →
    RingEnd agents nodes k l
ring-to-node agents nodes k l h = node-ends agents nodes k l h.0 (agents + k) refl h.1
