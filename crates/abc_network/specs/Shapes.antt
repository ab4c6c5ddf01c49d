-- The rules of each shape.
use Rattle.std.specs.Prelude.{ℕ, ◌+◌, ◌%◌}
use Rattle.abc_shape.specs.declared.shape.Shape.TheVariants.{Cluster, Ring, Tree}
use Rattle.abc_shape.specs.Plans.{layout_of}
use Rattle.abc_network.specs.Links.{from_agent, to_home}
use Rattle.abc_network.specs.Nodes.{cluster_machine}
use Rattle.abc_network.specs.Stores.{Store, store_machine, blank_store}
use Rattle.abc_network.specs.Rings.{ring_kind}
use Rattle.abc_network.specs.Trees.{tree_kind}
use Rattle.abc_network.specs.Networks.{Rules}

-- In a cluster an agent's packets go to the nodes in turn, from the node of its own number on.
abbrev pub cluster_rules : {L : Type 0} → ℕ → ℕ → ℕ → ℕ → Rules L (Unit {0})
cluster_rules agents nodes limit pick = record {
  plan = layout_of Cluster agents nodes;
  limit = limit;
  pick = pick;
  node = cluster_machine agents nodes;
  blank = tt;
  way = λ i packets. from_agent nodes ((i + packets) % nodes) i;
}

-- In a ring an agent's packets go to its home.
abbrev pub ring_rules : {L : Type 0} → ℕ → ℕ → ℕ → ℕ → Rules L (Store L)
ring_rules agents nodes limit pick = record {
  plan = layout_of Ring agents nodes;
  limit = limit;
  pick = pick;
  node = store_machine (ring_kind (layout_of Ring agents nodes));
  blank = blank_store;
  way = λ i packets. to_home i;
}

-- So do they in a tree.
abbrev pub tree_rules : {L : Type 0} → ℕ → ℕ → ℕ → ℕ → Rules L (Store L)
tree_rules agents nodes limit pick = record {
  plan = layout_of Tree agents nodes;
  limit = limit;
  pick = pick;
  node = store_machine (tree_kind (layout_of Tree agents nodes));
  blank = blank_store;
  way = λ i packets. to_home i;
}
