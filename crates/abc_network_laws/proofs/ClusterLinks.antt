-- Which links end at an agent and at a node of a cluster, by number.
use Rattle.std.proofs.Common.{◌≡◌, ℕ, ◌+◌, ◌*◌, ◌<◌, refl, sym, ◌∙◌, subst, arith}
use Rattle.abc_shape.specs.declared.shape.Shape.TheVariants.{Cluster}
use Rattle.abc_shape.specs.Plans.{IsLink, cluster_up, cluster_down, home_up, home_down, along}
use Rattle.abc_shape.specs.Plans.{tree_up, tree_down, layout_of}
use Rattle.abc_network.specs.Links.{to_agent, from_agent}
use Rattle.abc_network.specs.Networks.{EndsAtAgent, EndsAtNode}

-- A link that ends at an agent comes from a node.
agent-ends : (agents nodes i l from to : ℕ) → i < agents → to ≡ i →
    IsLink (layout_of Cluster agents nodes) l from to →
    (k : ℕ) × (k < nodes) × (l ≡ to_agent nodes k i)
agent-ends agents nodes i l from to low is (cluster_up j k shape a b f t n) = absurd (omega arith)
agent-ends agents nodes i l from to low is (cluster_down j k shape a b f t n) =
    let same : j ≡ i = sym t ∙ is in (k, b, subst (λ v. l ≡ 2 * (v * nodes + k) + 1) same n)
agent-ends agents nodes i l from to low is (home_up j shape a f t n) = absurd (shape refl)
agent-ends agents nodes i l from to low is (home_down j shape a f t n) = absurd (shape refl)
agent-ends agents nodes i l from to low is (along k shape a b f t n) = absurd (cc)
agent-ends agents nodes i l from to low is (tree_up k shape a b f t n) = absurd (cc)
agent-ends agents nodes i l from to low is (tree_down k shape a b f t n) = absurd (cc)

-- A link that ends at a node comes from an agent.
node-ends : (agents nodes k l from to : ℕ) → to ≡ agents + k →
    IsLink (layout_of Cluster agents nodes) l from to →
    (i : ℕ) × (i < agents) × (l ≡ from_agent nodes k i)
node-ends agents nodes k l from to is (cluster_up i j shape a b f t n) =
    let same : j ≡ k = omega arith in (i, a, subst (λ v. l ≡ 2 * (i * nodes + v)) same n)
node-ends agents nodes k l from to is (cluster_down i j shape a b f t n) = absurd (omega arith)
node-ends agents nodes k l from to is (home_up j shape a f t n) = absurd (shape refl)
node-ends agents nodes k l from to is (home_down j shape a f t n) = absurd (shape refl)
node-ends agents nodes k l from to is (along j shape a b f t n) = absurd (cc)
node-ends agents nodes k l from to is (tree_up j shape a b f t n) = absurd (cc)
node-ends agents nodes k l from to is (tree_down j shape a b f t n) = absurd (cc)

-- The links that end at an agent.
pub cluster-to-agent : (agents nodes i l : ℕ) → EndsAtAgent (layout_of Cluster agents nodes) i l →
    (k : ℕ) × (k < nodes) × (l ≡ to_agent nodes k i)
cluster-to-agent agents nodes i l h = agent-ends agents nodes i l h.1.0 i h.0 refl h.1.1

-- The links that end at a node.
pub cluster-to-node : (agents nodes k l : ℕ) → EndsAtNode (layout_of Cluster agents nodes) k l →
    (i : ℕ) × (i < agents) × (l ≡ from_agent nodes k i)
cluster-to-node agents nodes k l h = node-ends agents nodes k l h.0 (agents + k) refl h.1
