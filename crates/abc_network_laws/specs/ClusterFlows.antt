-- The paths of a cluster: an agent sends to a node, and the node to every other agent.
use Rattle.std.specs.Prelude.{◌≡◌, ℕ, ◌+◌, ◌-◌, ◌*◌, ◌/◌, ◌%◌, ◌<◌, ◌==◌, nat_lt, ◌⊎◌, length}
use Rattle.std.specs.Prelude.{if◌then◌else◌}
use Rattle.abc_value.specs.declared.grant.Grant.{Grant}
use Rattle.abc_value.specs.declared.grant.Grant.TheVariants.{Number, Closed}
use Rattle.abc_packet.specs.declared.packets.Packet.{Packet}
use Rattle.abc_packet.specs.declared.packets.Packet.TheVariants.{Request, Reply, Message}
use Rattle.abc_network.specs.Links.{to_agent, from_agent}
use Rattle.abc_network.specs.Agents.{Asking, Idle, Waiting, Granted, Shut}
use Rattle.abc_network_laws.specs.Charges.{Charge}
use Rattle.abc_network_laws.specs.Flows.{Flow, Goal, ToAgent, ToNode, at_agent}

-- Each message reaches every agent; nodes keep none.
abbrev pub cluster_reached : ℕ → Goal → ℕ
cluster_reached agents (ToAgent j) = if nat_lt j agents then 1 else 0
cluster_reached agents (ToNode k) = 0

-- Links with an even number lead from agents, and those with an odd one to agents.
abbrev pub cluster_leads : ℕ → ℕ → ℕ → ℕ → Goal → ℕ
cluster_leads agents nodes sender l goal =
    if l % 2 == 0 then cluster_reached agents goal - at_agent sender goal else at_agent
    (l / 2 / nodes) goal

-- Which packets may be on a link.
abbrev pub ClusterFits : {L : Type 0} → ℕ → ℕ → ℕ → Packet L → Type 0
ClusterFits agents nodes l (Request a) =
    (k : ℕ) × (k < nodes) × (a < agents) × (l ≡ from_agent nodes k a)
ClusterFits agents nodes l (Reply a grant) =
    (k : ℕ) × (k < nodes) × (a < agents) × (l ≡ to_agent nodes k a)
ClusterFits agents nodes l (Message n sender content) =
    (0 < n) × (sender < agents)
    × (((k : ℕ) × (k < nodes) × (l ≡ from_agent nodes k sender))
    ⊎ ((k : ℕ) × (i : ℕ) × (k < nodes) × (i < agents) × (i ≡ sender → ⊥)
    × (l ≡ to_agent nodes k i)))

abbrev pub cluster_flow : {L : Type 0} → ℕ → ℕ → Flow L (Unit {0})
cluster_flow agents nodes = record {
  agents = agents;
  links = 2 * (agents * nodes);
  sound = λ k s. k < nodes;
  leads = cluster_leads agents nodes;
  reached = cluster_reached agents;
  carries = λ k s n goal. 0;
  next = λ s. 1;
  fits = ClusterFits agents nodes;
}

-- What packets, agents and their stores are worth in events still to come, where a number is worth
-- `worth`.
abbrev pub grant_worth : ℕ → Grant → ℕ
grant_worth worth (Number n) = worth
grant_worth worth Closed = 0

abbrev pub asking_worth : ℕ → Asking → ℕ
asking_worth worth Idle = 15
asking_worth worth Waiting = 0
asking_worth worth (Granted n) = worth
asking_worth worth Shut = 0

abbrev pub cluster_weight : {L : Type 0} → ℕ → ℕ → ℕ → Packet L → ℕ
cluster_weight worth agents l (Request a) = 2
cluster_weight worth agents l (Reply a grant) = 1 + grant_worth worth grant
cluster_weight worth agents l (Message n sender content) = if l % 2 == 0 then 2 * agents + 1 else 2

abbrev pub cluster_charge : {B L : Type 0} → ℕ → ℕ → Charge B L (Unit {0})
cluster_charge worth agents = record {
  on_link = cluster_weight worth agents;
  on_agent = λ i s. asking_worth worth s.asking + length s.stored;
  on_node = λ k s. 0;
}
