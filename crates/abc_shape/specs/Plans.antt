-- Plans of networks: which links there are, and the numbers that they have. Agents are the actors 0, 1 and so on; the
-- nodes are the actors after them.
use Rattle.std.specs.Prelude.{◌≡◌, ◌≢◌, ◌==◌, ◌↔◌, ℕ, ◌+◌, ◌-◌, ◌*◌, ◌/◌, ◌%◌, ◌<◌, ◌≤◌, List, length, Option, Some, None, slice_get, if◌then◌else◌}
use Rattle.abc_shape.specs.declared.shape.Shape.{Shape}
use Rattle.abc_shape.specs.declared.shape.Shape.TheVariants.{Cluster, Ring, Tree}
use Rattle.abc_shape.specs.declared.layout.Layout.{Layout}
use Rattle.abc_shape.specs.declared.layout.LinkEnds.{LinkEnds}
use Rattle.abc_shape.specs.declared.layout.TheConstants.{MOST_AGENTS, MOST_NODES}

abbrev pub layout_of : Shape → ℕ → ℕ → Layout
layout_of shape agents nodes = record { shape = shape; agents = agents; nodes = nodes }

-- A plan has 1 to 256 agents and 1 to 64 nodes.
pub record IsLayout (p : Layout) : Type 0 where
  pub some_agents : 1 ≤ p.agents
  pub most_agents : p.agents ≤ MOST_AGENTS
  pub some_nodes : 1 ≤ p.nodes
  pub most_nodes : p.nodes ≤ MOST_NODES

-- The actor that node k is.
abbrev pub actor_of : Layout → ℕ → ℕ
actor_of p k = p.agents + k

-- The node to which an agent is linked in a ring and in a tree.
abbrev pub home : Layout → ℕ → ℕ
home p agent = agent % p.nodes

-- The next node in a ring; the first comes after the last.
abbrev pub successor : Layout → ℕ → ℕ
successor p k = (k + 1) % p.nodes

-- One step up in a tree, from a node that is not the root, 0.
abbrev pub step_up : ℕ → ℕ
step_up k = (k - 1) / 2

abbrev pub parent_in : Shape → ℕ → Option ℕ
parent_in Cluster k = None
parent_in Ring k = None
parent_in Tree k = if k == 0 then None else Some (step_up k)

-- The parent of a node: none of the root, and none outside trees.
abbrev pub parent : Layout → ℕ → Option ℕ
parent p k = parent_in p.shape k

-- The link of this number leads from one actor to another. Each line is a row of the tables.
pub data IsLink (p : Layout) (number from to : ℕ) : Type 0 where
  -- in a cluster, agent i to node k, and back
  cluster_up : (i k : ℕ) → p.shape ≡ Cluster → i < p.agents → k < p.nodes →
      from ≡ i → to ≡ actor_of p k → number ≡ 2 * (i * p.nodes + k) → IsLink p number from to
  cluster_down : (i k : ℕ) → p.shape ≡ Cluster → i < p.agents → k < p.nodes →
      from ≡ actor_of p k → to ≡ i → number ≡ 2 * (i * p.nodes + k) + 1 → IsLink p number from to
  -- in a ring and in a tree, agent i to its home, and back
  home_up : (i : ℕ) → p.shape ≢ Cluster → i < p.agents →
      from ≡ i → to ≡ actor_of p (home p i) → number ≡ 2 * i → IsLink p number from to
  home_down : (i : ℕ) → p.shape ≢ Cluster → i < p.agents →
      from ≡ actor_of p (home p i) → to ≡ i → number ≡ 2 * i + 1 → IsLink p number from to
  -- in a ring of more than one node, node k to its successor
  along : (k : ℕ) → p.shape ≡ Ring → 1 < p.nodes → k < p.nodes →
      from ≡ actor_of p k → to ≡ actor_of p (successor p k) → number ≡ 2 * p.agents + k → IsLink p number from to
  -- in a tree, node k that is not the root to its parent, and back
  tree_up : (k : ℕ) → p.shape ≡ Tree → 0 < k → k < p.nodes →
      from ≡ actor_of p k → to ≡ actor_of p (step_up k) → number ≡ 2 * p.agents + 2 * (k - 1) → IsLink p number from to
  tree_down : (k : ℕ) → p.shape ≡ Tree → 0 < k → k < p.nodes →
      from ≡ actor_of p (step_up k) → to ≡ actor_of p k → number ≡ 2 * p.agents + 2 * (k - 1) + 1 → IsLink p number from to

abbrev pub links_in : Shape → ℕ → ℕ → ℕ
links_in Cluster agents nodes = 2 * (agents * nodes)
links_in Ring agents nodes = 2 * agents + (if nodes == 1 then 0 else nodes)
links_in Tree agents nodes = 2 * agents + 2 * (nodes - 1)

-- How many links there are.
abbrev pub link_count : Layout → ℕ
link_count p = links_in p.shape p.agents p.nodes

-- The list has the links of the tables, each at its number, and no others.
pub record ListsLinks (p : Layout) (ends : List LinkEnds) : Type 0 where
  pub count : length ends ≡ link_count p
  pub rows : (number : ℕ) (e : LinkEnds) → (slice_get ends number ≡ Some e) ↔ IsLink p number e.from e.to

-- What a plan holds: numbers within the limits, and the list of its links.
pub record IsPlan (p : Layout) (ends : List LinkEnds) : Type 0 where
  pub limits : IsLayout p
  pub links : ListsLinks p ends
