-- The paths of a ring: a message goes from its sender's home along the ring, and to the agents at
-- each node.
use Rattle.std.specs.Prelude.{◌≡◌, ◌≢◌, ℕ, ◌+◌, ◌-◌, ◌*◌, ◌/◌, ◌%◌, ◌<◌, ◌==◌, nat_lt, ◌⊎◌, List}
use Rattle.std.specs.Prelude.{[], ◌∷◌, ◌++◌, if◌then◌else◌}
use Rattle.abc_packet.specs.declared.packets.Packet.{Packet}
use Rattle.abc_packet.specs.declared.packets.Packet.TheVariants.{Request, Reply, Message}
use Rattle.abc_shape.specs.declared.shape.Shape.TheVariants.{Ring}
use Rattle.abc_shape.specs.Plans.{layout_of, successor, link_count}
use Rattle.abc_network.specs.Links.{to_home, from_home, to_successor}
use Rattle.abc_network.specs.Rings.{homed_from, ring_kind}
use Rattle.abc_network_laws.specs.Flows.{Goal, ToAgent, ToNode, at_agent}
use Rattle.abc_network_laws.specs.StoreFlows.{Kind}

-- What a link is, by its number: from an agent, to an agent, or from a node to the next.
pub data Link : Type 0 where
  Up : ℕ → Link
  Down : ℕ → Link
  Along : ℕ → Link

abbrev pub link_at : ℕ → ℕ → Link
link_at agents l =
    if nat_lt l (2 * agents) then (if l % 2 == 0 then Up (l / 2) else Down (l / 2))
    else Along (l - 2 * agents)

-- The next node, and the one before, by cases.
abbrev pub next_on : ℕ → ℕ → ℕ
next_on nodes k = if k + 1 == nodes then 0 else k + 1

abbrev pub predecessor : ℕ → ℕ → ℕ
predecessor nodes k = if k == 0 then nodes - 1 else k - 1

-- How far k is along the ring from h.
abbrev pub far : ℕ → ℕ → ℕ → ℕ
far nodes h k = if nat_lt k h then k + nodes - h else k - h

-- The node of a goal.
abbrev pub node_of : ℕ → Goal → ℕ
node_of nodes (ToAgent j) = j % nodes
node_of nodes (ToNode k) = k

-- 1 where the goal is an agent or a node of the network. Each message reaches all of these.
abbrev pub inside : ℕ → ℕ → Goal → ℕ
inside agents nodes (ToAgent j) = if nat_lt j agents then 1 else 0
inside agents nodes (ToNode k) = if nat_lt k nodes then 1 else 0

-- From the sender all are reached but itself; to an agent, that agent; from a node those that are
-- further from home.
abbrev pub ring_leads_on : ℕ → ℕ → ℕ → Link → Goal → ℕ
ring_leads_on agents nodes sender (Up i) goal = inside agents nodes goal - at_agent i goal
ring_leads_on agents nodes sender (Down i) goal = at_agent i goal
ring_leads_on agents nodes sender (Along k) goal =
    if nat_lt (far nodes (sender % nodes) k) (far nodes (sender % nodes) (node_of nodes goal))
    then inside agents nodes goal else 0

abbrev pub ring_leads : ℕ → ℕ → ℕ → ℕ → Goal → ℕ
ring_leads agents nodes sender l goal = ring_leads_on agents nodes sender (link_at agents l) goal

-- The links of Pass, with the next node by cases.
abbrev pub outs_on : ℕ → ℕ → ℕ → ℕ → ℕ → List ℕ
outs_on agents nodes k sender came =
    homed_from (layout_of Ring agents nodes) k sender 0 agents
    ++ (if next_on nodes k == sender % nodes then [] else (2 * agents + k) ∷ [])

-- Which packets may be on a link. A message stands on its sender's link, on those to other agents,
-- and on those between nodes that don't end at its sender's home.
abbrev pub RingFits : {L : Type 0} → ℕ → ℕ → ℕ → Packet L → Type 0
RingFits agents nodes l (Request a) = (a < agents) × (l ≡ to_home a)
RingFits agents nodes l (Reply a grant) = (a < agents) × (l ≡ from_home a)
RingFits agents nodes l (Message n sender content) =
    (0 < n) × (sender < agents)
    × ((l ≡ to_home sender)
    ⊎ (((i : ℕ) × (i < agents) × (i ≢ sender) × (l ≡ from_home i))
    ⊎ ((j : ℕ) × (j < nodes) × (successor (layout_of Ring agents nodes) j ≢ sender % nodes)
    × (l ≡ to_successor agents j))))

abbrev pub ring : {L : Type 0} → ℕ → ℕ → Kind L
ring agents nodes = record {
  rows = ring_kind (layout_of Ring agents nodes);
  agents = agents;
  nodes = nodes;
  links = link_count (layout_of Ring agents nodes);
  leads = ring_leads agents nodes;
  reached = inside agents nodes;
  fits = RingFits agents nodes;
}
