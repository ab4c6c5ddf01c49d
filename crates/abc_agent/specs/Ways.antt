-- On which links an agent's packets go.
use Rattle.std.specs.Prelude.{ℕ, ◌+◌, ◌%◌}
use Rattle.abc_shape.specs.declared.shape.Shape.{Shape}
use Rattle.abc_shape.specs.declared.shape.Shape.TheVariants.{Cluster, Ring, Tree}
use Rattle.abc_shape.specs.declared.layout.Layout.{Layout}
use Rattle.abc_shape.specs.Plans.{IsLink}
use Rattle.abc_network.specs.Links.{from_agent, to_home}

-- In a cluster of so many nodes the packets of agent i go to the nodes in turn, from the node of
-- its own number on. In a ring and in a tree they go to its home.
abbrev pub way_in : Shape → ℕ → ℕ → ℕ → ℕ
way_in Cluster nodes i packets = from_agent nodes ((i + packets) % nodes) i
way_in Ring nodes i packets = to_home i
way_in Tree nodes i packets = to_home i

-- The link of agent i's next packet, by the count of its packets.
abbrev pub way_of : Layout → ℕ → ℕ → ℕ
way_of p i packets = way_in p.shape p.nodes i packets

-- Among these links are all that lead from actor i.
abbrev pub HasLinksFrom : Layout → ℕ → (ℕ → Type 0) → Type 0
HasLinksFrom p i has = (link to : ℕ) → IsLink p link i to → has link
