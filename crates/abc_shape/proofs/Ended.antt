-- The rows of the tables, from the ends: which number a link with these ends has.
use Rattle.std.proofs.Common.{◌≡◌, ◌≢◌, ℕ, ◌+◌, ◌-◌, ◌*◌, ◌%◌, ◌<◌, ◌≤◌, refl, sym, ap, ◌∙◌, subst, arith, inl, inr}
use Rattle.std.specs.Prelude.{◌⊎◌, Option, Some, None, MatchOption}
use Rattle.std.proofs.lemmas.Nat.{mod_below}
use Rattle.abc_shape.specs.declared.shape.Shape.{Shape}
use Rattle.abc_shape.specs.declared.shape.Shape.TheVariants.{Cluster, Ring, Tree}
use Rattle.abc_shape.specs.declared.layout.Layout.{Layout}
use Rattle.abc_shape.specs.Plans.{IsLayout, actor_of, home, successor, step_up, IsLink, cluster_up, cluster_down, home_up, home_down, along, tree_up, tree_down}

pub not-cluster : (s : Shape) → (s ≡ Ring) ⊎ (s ≡ Tree) → s ≢ Cluster
not-cluster s (inl ring) e = let two : Ring ≡ Cluster = sym ring ∙ e in cc
not-cluster s (inr tree) e = let two : Tree ≡ Cluster = sym tree ∙ e in cc

-- From an agent to a node.
pub up-number : (p : Layout) (n i k : ℕ) → i < p.agents → IsLink p n i (actor_of p k) →
    ((p.shape ≡ Cluster) × (n ≡ 2 * (i * p.nodes + k))) ⊎ ((p.shape ≢ Cluster) × (k ≡ home p i) × (n ≡ 2 * i))
up-number p n i k low (cluster_up j m s a b f t e) = let same : j * p.nodes ≡ i * p.nodes = ap (λ x. x * p.nodes) (sym f) in inl (s, omega arith)
up-number p n i k low (cluster_down j m s a b f t e) = absurd (omega arith)
up-number p n i k low (home_up j s a f t e) = let same : j % p.nodes ≡ i % p.nodes = ap (λ x. x % p.nodes) (sym f) in inr (s, omega arith, omega arith)
up-number p n i k low (home_down j s a f t e) = absurd (omega arith)
up-number p n i k low (along m s o b f t e) = absurd (omega arith)
up-number p n i k low (tree_up m s o b f t e) = absurd (omega arith)
up-number p n i k low (tree_down m s o b f t e) = absurd (omega arith)

-- From a node to an agent.
pub down-number : (p : Layout) (n i k : ℕ) → i < p.agents → IsLink p n (actor_of p k) i →
    ((p.shape ≡ Cluster) × (n ≡ 2 * (i * p.nodes + k) + 1)) ⊎ ((p.shape ≢ Cluster) × (k ≡ home p i) × (n ≡ 2 * i + 1))
down-number p n i k low (cluster_up j m s a b f t e) = absurd (omega arith)
down-number p n i k low (cluster_down j m s a b f t e) = let same : j * p.nodes ≡ i * p.nodes = ap (λ x. x * p.nodes) (sym t) in inl (s, omega arith)
down-number p n i k low (home_up j s a f t e) = absurd (omega arith)
down-number p n i k low (home_down j s a f t e) = let same : j % p.nodes ≡ i % p.nodes = ap (λ x. x % p.nodes) (sym t) in inr (s, omega arith, omega arith)
down-number p n i k low (along m s o b f t e) = absurd (omega arith)
down-number p n i k low (tree_up m s o b f t e) = absurd (omega arith)
down-number p n i k low (tree_down m s o b f t e) = absurd (omega arith)

-- From a node to a node: in no cluster,
pub no-node-link : (p : Layout) (n k m : ℕ) → p.shape ≡ Cluster → IsLink p n (actor_of p k) (actor_of p m) → ⊥
no-node-link p n k m c (cluster_up j h s a b f t e) = omega arith
no-node-link p n k m c (cluster_down j h s a b f t e) = omega arith
no-node-link p n k m c (home_up j s a f t e) = omega arith
no-node-link p n k m c (home_down j s a f t e) = omega arith
no-node-link p n k m c (along h s o b f t e) = cc
no-node-link p n k m c (tree_up h s o b f t e) = cc
no-node-link p n k m c (tree_down h s o b f t e) = cc

-- in a ring by the first of them,
pub ring-number : (p : Layout) (n k m : ℕ) → p.shape ≡ Ring → IsLink p n (actor_of p k) (actor_of p m) → (1 < p.nodes) × (m ≡ successor p k) × (n ≡ 2 * p.agents + k)
ring-number p n k m c (cluster_up j h s a b f t e) = absurd (omega arith)
ring-number p n k m c (cluster_down j h s a b f t e) = absurd (omega arith)
ring-number p n k m c (home_up j s a f t e) = absurd (omega arith)
ring-number p n k m c (home_down j s a f t e) = absurd (omega arith)
ring-number p n k m c (along h s o b f t e) =
    let same : h ≡ k = omega arith in
    let next : (h + 1) % p.nodes ≡ (k + 1) % p.nodes = ap (λ x. (x + 1) % p.nodes) same in
    (o, omega arith, omega arith)
ring-number p n k m c (tree_up h s o b f t e) = absurd (let two : Ring ≡ Tree = sym c ∙ s in cc)
ring-number p n k m c (tree_down h s o b f t e) = absurd (let two : Ring ≡ Tree = sym c ∙ s in cc)

-- in a tree by the lower of them.
pub tree-number : (p : Layout) (n k m : ℕ) → p.shape ≡ Tree → IsLink p n (actor_of p k) (actor_of p m) →
    ((m < k) × (m ≡ step_up k) × (n ≡ 2 * p.agents + 2 * (k - 1))) ⊎ ((k < m) × (k ≡ step_up m) × (n ≡ 2 * p.agents + 2 * (m - 1) + 1))
tree-number p n k m c (cluster_up j h s a b f t e) = absurd (omega arith)
tree-number p n k m c (cluster_down j h s a b f t e) = absurd (omega arith)
tree-number p n k m c (home_up j s a f t e) = absurd (omega arith)
tree-number p n k m c (home_down j s a f t e) = absurd (omega arith)
tree-number p n k m c (along h s o b f t e) = absurd (let two : Ring ≡ Tree = sym s ∙ c in cc)
tree-number p n k m c (tree_up h s o b f t e) = inl (omega arith, omega arith, omega arith)
tree-number p n k m c (tree_down h s o b f t e) = inr (omega arith, omega arith, omega arith)

-- No link leads from an agent to an agent.
pub no-agent-link : (p : Layout) (n i j : ℕ) → i < p.agents → j < p.agents → IsLink p n i j → ⊥
no-agent-link p n i j x y (cluster_up h m s a b f t e) = omega arith
no-agent-link p n i j x y (cluster_down h m s a b f t e) = omega arith
no-agent-link p n i j x y (home_up h s a f t e) = omega arith
no-agent-link p n i j x y (home_down h s a f t e) = omega arith
no-agent-link p n i j x y (along m s o b f t e) = omega arith
no-agent-link p n i j x y (tree_up m s o b f t e) = omega arith
no-agent-link p n i j x y (tree_down m s o b f t e) = omega arith

-- The ends of a link are actors of the plan.
pub ends-below : (p : Layout) (n from to : ℕ) → IsLayout p → IsLink p n from to → (from < p.agents + p.nodes) × (to < p.agents + p.nodes)
ends-below p n from to l (cluster_up h m s a b f t e) = (omega arith, omega arith)
ends-below p n from to l (cluster_down h m s a b f t e) = (omega arith, omega arith)
ends-below p n from to l (home_up h s a f t e) = let x = mod_below h p.nodes (omega (arith, l.some_nodes)) in (omega arith, omega arith)
ends-below p n from to l (home_down h s a f t e) = let x = mod_below h p.nodes (omega (arith, l.some_nodes)) in (omega arith, omega arith)
ends-below p n from to l (along m s o b f t e) = let x = mod_below (m + 1) p.nodes (omega (arith, l.some_nodes)) in (omega arith, omega arith)
ends-below p n from to l (tree_up m s o b f t e) = (omega arith, omega arith)
ends-below p n from to l (tree_down m s o b f t e) = (omega arith, omega arith)

-- Ends that are past the agents are nodes.
pub as-to : (p : Layout) (n from to : ℕ) → p.agents ≤ to → IsLink p n from to → IsLink p n from (actor_of p (to - p.agents))
as-to p n from to h r = let same : to ≡ p.agents + (to - p.agents) = omega arith in subst (λ (x : ℕ). IsLink p n from x) same r

pub as-from : (p : Layout) (n from to : ℕ) → p.agents ≤ from → IsLink p n from to → IsLink p n (actor_of p (from - p.agents)) to
as-from p n from to h r = let same : from ≡ p.agents + (from - p.agents) = omega arith in subst (λ (x : ℕ). IsLink p n x to) same r

-- The links between an agent and its home.
pub up-at_home : (p : Layout) (i k : ℕ) → p.shape ≢ Cluster → i < p.agents → (p.shape ≢ Cluster → k ≡ home p i) → IsLink p (2 * i) i (actor_of p k)
up-at_home p i k s low h = home_up i s low refl (ap (actor_of p) (h s)) refl

pub down-at_home : (p : Layout) (i k : ℕ) → p.shape ≢ Cluster → i < p.agents → (p.shape ≢ Cluster → k ≡ home p i) → IsLink p (2 * i + 1) (actor_of p k) i
down-at_home p i k s low h = home_down i s low (ap (actor_of p) (h s)) refl refl

-- What is said of nodes by their places among the actors is said of the actors.
pub between-actors : (p : Layout) (from to : ℕ) (r : Option ℕ) → p.agents ≤ from → p.agents ≤ to →
    MatchOption r ((n : ℕ) → ¬ (IsLink p n (actor_of p (from - p.agents)) (actor_of p (to - p.agents)))) (λ m. (n : ℕ) → IsLink p n (actor_of p (from - p.agents)) (actor_of p (to - p.agents)) → n ≡ m) →
    MatchOption r ((n : ℕ) → ¬ (IsLink p n from to)) (λ m. (n : ℕ) → IsLink p n from to → n ≡ m)
between-actors p from to None a b h = λ n r. h n (as-from p n from _ a (as-to p n from to b r))
between-actors p from to (Some m) a b h = λ n r. h n (as-from p n from _ a (as-to p n from to b r))
