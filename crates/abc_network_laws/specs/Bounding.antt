-- How many events a run has at most.
use Rattle.std.specs.Prelude.{◌≡◌, ℕ, ◌+◌, ◌*◌, ◌<◌, ◌≤◌, List, [], length}
use Rattle.abc_packet.specs.declared.packets.Content.{Content}
use Rattle.abc_packet.specs.declared.packets.Packet.{Packet}
use Rattle.abc_packet.specs.declared.log.Deed.{Deed}
use Rattle.abc_body.specs.Meanings.{Meaning}
use Rattle.abc_network.specs.Agents.{AgentState, AgentDoes, Idle}
use Rattle.abc_network.specs.Networks.{Net, Rules, Event, Netrun, start_of, drawn_in, EndsAtAgent}
use Rattle.abc_network_laws.specs.Kept.{Each}
use Rattle.abc_network_laws.specs.Charges.{Charge, of_packets, taken_at, numbers_drawn}
use Rattle.abc_network_laws.specs.Flows.{Flow, NotStray, Comes}

-- Every row gives up at least one of a charge, where a number that is drawn brings `worth`. So the
-- charge at the start, with that of all numbers, is a bound on the events.
pub record Pays {B L N : Type 0} (m : Meaning B L) (r : Rules L N) (f : Flow L N) (worth : ℕ)
    (c : Charge B L N) : Type 0 where
  -- a row of agent i, which takes a packet that fits
  pub agent : (i : ℕ) (s : AgentState B L) (d : Deed L) (sends : List (ℕ × Packet L))
      (s' : AgentState B L) →
      i < f.agents → AgentDoes m r.pick (r.way i) i s d sends s' → NotStray d →
      Each (λ x. EndsAtAgent r.plan i x.0 × f.fits x.0 x.1) (taken_at d) →
      of_packets c.on_link sends + (c.on_agent i s' + 1) ≤ of_packets c.on_link (taken_at d)
      + c.on_agent i s
  -- a row of node k, which stores no number above the limit
  pub node : (k : ℕ) (s : N) (d : Deed L) (sends : List (ℕ × Packet L)) (s' : N) →
      r.node.does k s d sends s' → NotStray d → f.sound k s → Each (Comes f r k) (taken_at d) →
      ((n sender : ℕ) (content : Content L) → r.node.holds s n sender content → n ≤ r.limit) →
      of_packets c.on_link sends + (c.on_node k s' + 1)
      ≤ of_packets c.on_link (taken_at d) + (c.on_node k s + numbers_drawn (drawn_in d) * worth)
  -- the charge of an agent and of a node at the start
  pub idle : (i : ℕ) (b : B) → c.on_agent i
      (record { body = b; front = 0; asking = Idle; stored = []; packets = 0 }) ≡ 15
  pub blank : (k : ℕ) → c.on_node k r.blank ≡ 0

-- Every run of the network from its start, with one body for each agent, has at most so many
-- events: 15 for each agent and each number, and for each number 2 for each agent and each node.
abbrev pub Bounded : {B L N : Type 0} → Meaning B L → Rules L N → Type 0
Bounded {B} {L} {N} m r =
    (bodies : List B) (es : List (Event L)) (w : Net B L N) → length bodies ≡ r.plan.agents →
    Netrun m r (start_of r bodies) es w →
    length es ≤ 15 * (r.limit + r.plan.agents) + r.limit * (2 * r.plan.agents + 2 * r.plan.nodes)
