-- A run of a cluster, event by event, and three events that are none.
use Rattle.std.specs.Prelude.{ℕ, List, [], ◌∷◌, Some, None}
use Rattle.abc_value.specs.declared.grant.Grant.TheVariants.{Number}
use Rattle.abc_packet.specs.declared.packets.Content.{Content}
use Rattle.abc_packet.specs.declared.packets.Content.TheVariants.{Said}
use Rattle.abc_packet.specs.declared.packets.Packet.{Packet}
use Rattle.abc_packet.specs.declared.packets.Packet.TheVariants.{Request, Reply, Message}
use Rattle.abc_packet.specs.declared.stamped.Stamped.{Stamped}
use Rattle.abc_packet.specs.declared.log.Deed.{Deed}
use Rattle.abc_packet.specs.declared.log.Deed.TheVariants.{Asked, Arrived, Took, Turned}
use Rattle.abc_packet.specs.declared.log.Entry.{Entry}
use Rattle.abc_body.specs.Tallies.{tally}
use Rattle.abc_network.specs.Agents.{AgentState, Asking, Idle, Waiting}
use Rattle.abc_network.specs.Networks.{Net, Actor, Rules, Event, AgentDid, NodeDid, NetStep, Netrun}
use Rattle.abc_network.specs.Networks.{start_of}
use Rattle.abc_network.specs.Shapes.{cluster_rules}

-- Two agents and one node; one number is drawn, and turns begin at 0.
abbrev pub two_and_one : Rules ℕ (Unit {0})
two_and_one = cluster_rules 2 1 1 0

abbrev pub did : ℕ → Deed ℕ → Entry ℕ
did clock deed = record { clock = clock; deed = deed }

abbrev pub sent_at : ℕ → Packet ℕ → Stamped ℕ
sent_at clock packet = record { clock = clock; packet = packet }

abbrev pub agent : ℕ → ℕ → Asking → List (ℕ × Content ℕ) → ℕ → ℕ → List (Entry ℕ) →
    Actor (AgentState ℕ ℕ) ℕ
agent body front asking stored packets clock log = record {
  state = record {
    body = body;
    front = front;
    asking = asking;
    stored = stored;
    packets = packets;
  };
  clock = clock;
  log = log;
}

abbrev pub node : ℕ → List (Entry ℕ) → Actor (Unit {0}) ℕ
node clock log = record { state = tt; clock = clock; log = log }

-- Agent 0 asks, the node draws 1, and agent 0 has it,
abbrev pub asks_first : Entry ℕ
asks_first = did 1 Asked

abbrev pub draws_one : Entry ℕ
draws_one = did 2 (Arrived 0 (sent_at 1 (Request 0)) (Some (Number 1)))

abbrev pub has_one : Entry ℕ
has_one = did 3 (Arrived 1 (sent_at 2 (Reply 0 (Number 1))) None)

-- it says its count, which is 0, and the node sends that to agent 1,
abbrev pub says_nought : Entry ℕ
says_nought = did 4 (Turned 1 (Some 0) (Said 0))

abbrev pub sends_on : Entry ℕ
sends_on = did 5 (Arrived 0 (sent_at 4 (Message 1 0 (Said 0))) None)

-- which stores it, and hears it as its number comes.
abbrev pub stores_it : Entry ℕ
stores_it = did 6 (Arrived 3 (sent_at 5 (Message 1 0 (Said 0))) None)

abbrev pub takes_it : Entry ℕ
takes_it = did 7 (Took 1 (Some 0))

abbrev pub seven_events : List (Event ℕ)
seven_events =
    AgentDid 0 asks_first ∷ NodeDid 0 draws_one ∷ AgentDid 0 has_one ∷ AgentDid 0 says_nought
    ∷ NodeDid 0 sends_on ∷ AgentDid 1 stores_it ∷ AgentDid 1 takes_it ∷ []

-- The network before the first event, after it, and after the last.
abbrev pub at_first : Net ℕ ℕ (Unit {0})
at_first = start_of two_and_one (0 ∷ 4 ∷ [])

abbrev pub after_asking : Net ℕ ℕ (Unit {0})
after_asking = record {
  agents = agent 0 0 Waiting [] 1 1 (asks_first ∷ []) ∷ agent 4 0 Idle [] 0 0 [] ∷ [];
  nodes = node 0 [] ∷ [];
  links = (sent_at 1 (Request 0) ∷ []) ∷ [] ∷ [] ∷ [] ∷ [];
  drawn = [];
}

abbrev pub at_last : Net ℕ ℕ (Unit {0})
at_last = record {
  agents =
      agent 1 1 Idle [] 2 4 (asks_first ∷ has_one ∷ says_nought ∷ [])
      ∷ agent 5 1 Idle [] 0 7 (stores_it ∷ takes_it ∷ []) ∷ [];
  nodes = node 5 (draws_one ∷ sends_on ∷ []) ∷ [];
  links = [] ∷ [] ∷ [] ∷ [] ∷ [];
  drawn = 1 ∷ [];
}

-- It is no event of this network.
abbrev pub IsNone : Net ℕ ℕ (Unit {0}) → Event ℕ → Type 0
IsNone w e = (w' : Net ℕ ℕ (Unit {0})) → NetStep tally two_and_one w e w' → ⊥

pub record WorkedEvents : Type 0 where
  -- the seven events are a run
  pub run : Netrun tally two_and_one at_first seven_events at_last
  -- no agent takes number 2 before number 1
  pub in_order : IsNone at_first (AgentDid 0 (did 1 (Took 2 None)))
  -- no number above the limit is drawn
  pub limited : IsNone after_asking (NodeDid 0
      (did 2 (Arrived 0 (sent_at 1 (Request 0)) (Some (Number 2)))))
  -- nothing arrives on an empty link
  pub sent_before : IsNone at_first (NodeDid 0
      (did 2 (Arrived 0 (sent_at 1 (Request 0)) (Some (Number 1)))))
