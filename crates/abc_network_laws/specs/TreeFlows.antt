-- The paths of a tree: a link between neighbours parts the tree, and a message on it reaches all
-- that lies beyond.
use Rattle.std.specs.Prelude.{◌≡◌, ℕ, zero, suc, ◌+◌, ◌-◌, ◌*◌, ◌/◌, ◌%◌, ◌<◌, ◌==◌, nat_lt, ◌⊎◌}
use Rattle.std.specs.Prelude.{if◌then◌else◌}
use Rattle.abc_packet.specs.declared.packets.Packet.{Packet}
use Rattle.abc_packet.specs.declared.packets.Packet.TheVariants.{Request, Reply, Message}
use Rattle.abc_shape.specs.declared.shape.Shape.TheVariants.{Tree}
use Rattle.abc_shape.specs.Plans.{layout_of, link_count}
use Rattle.abc_shape.specs.Routes.{IsUnder}
use Rattle.abc_network.specs.Links.{to_home, from_home, to_parent, from_parent}
use Rattle.abc_network.specs.Trees.{tree_kind}
use Rattle.abc_network_laws.specs.Flows.{Goal, ToAgent, ToNode, at_agent}
use Rattle.abc_network_laws.specs.StoreFlows.{Kind}
use Rattle.abc_network_laws.specs.RingFlows.{inside}

-- 1 where c is g, or above it: found by steps up from g.
abbrev pub under_by : ℕ → ℕ → ℕ → ℕ
under_by zero c g = if g == c then 1 else 0
under_by (suc steps) c g = if g == c then 1 else
    (if g == 0 then 0 else under_by steps c ((g - 1) / 2))

abbrev pub under : ℕ → ℕ → ℕ
under c g = under_by g c g

-- 1 where the goal is in the subtree below c: a node, or an agent that is homed there.
abbrev pub below : ℕ → ℕ → ℕ → Goal → ℕ
below agents nodes c (ToAgent j) = if nat_lt j agents then under c (j % nodes) else 0
below agents nodes c (ToNode j) = if nat_lt j nodes then under c j else 0

-- What a link is, by its number: from an agent, to an agent, from node c to its parent, or from its
-- parent to node c.
pub data Edge : Type 0 where
  Up : ℕ → Edge
  Down : ℕ → Edge
  Rise : ℕ → Edge
  Fall : ℕ → Edge

abbrev pub edge_at : ℕ → ℕ → Edge
edge_at agents l =
    if nat_lt l (2 * agents) then (if l % 2 == 0 then Up (l / 2) else Down (l / 2))
    else (if (l - 2 * agents) % 2 == 0 then Rise ((l - 2 * agents) / 2 + 1)
    else Fall ((l - 2 * agents) / 2 + 1))

abbrev pub tree_leads_on : ℕ → ℕ → Edge → Goal → ℕ
tree_leads_on agents nodes (Up i) goal = inside agents nodes goal - at_agent i goal
tree_leads_on agents nodes (Down i) goal = at_agent i goal
tree_leads_on agents nodes (Rise c) goal = inside agents nodes goal - below agents nodes c goal
tree_leads_on agents nodes (Fall c) goal = below agents nodes c goal

abbrev pub tree_leads : ℕ → ℕ → ℕ → ℕ → Goal → ℕ
tree_leads agents nodes sender l goal = tree_leads_on agents nodes (edge_at agents l) goal

-- Which packets may be on a link: requests on the way up from their agent, replies on the way down
-- to it, and messages anywhere.
abbrev pub TreeFits : {L : Type 0} → ℕ → ℕ → ℕ → Packet L → Type 0
TreeFits agents nodes l (Request a) =
    (a < agents)
    × ((l ≡ to_home a)
    ⊎ ((c : ℕ) × (0 < c) × (c < nodes) × IsUnder c (a % nodes) × (l ≡ to_parent agents c)))
TreeFits agents nodes l (Reply a grant) =
    (a < agents)
    × ((l ≡ from_home a)
    ⊎ ((c : ℕ) × (0 < c) × (c < nodes) × IsUnder c (a % nodes) × (l ≡ from_parent agents c)))
TreeFits agents nodes l (Message n sender content) = (0 < n) × (sender < agents)

abbrev pub tree : {L : Type 0} → ℕ → ℕ → Kind L
tree agents nodes = record {
  rows = tree_kind (layout_of Tree agents nodes);
  agents = agents;
  nodes = nodes;
  links = link_count (layout_of Tree agents nodes);
  leads = tree_leads agents nodes;
  reached = inside agents nodes;
  fits = TreeFits agents nodes;
}
