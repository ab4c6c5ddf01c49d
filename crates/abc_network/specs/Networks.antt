-- The network: its state, its events and its runs.
use Rattle.std.specs.Prelude.{◌≡◌, ℕ, zero, suc, ◌+◌, ◌<◌, ◌≤◌, max, ◌==◌, List, [], ◌∷◌, ◌++◌}
use Rattle.std.specs.Prelude.{Option, Some, None, map, replicate, if◌then◌else◌}
use Rattle.abc_value.specs.declared.grant.Grant.{Grant}
use Rattle.abc_value.specs.declared.grant.Grant.TheVariants.{Number, Closed}
use Rattle.abc_packet.specs.declared.packets.Packet.{Packet}
use Rattle.abc_packet.specs.declared.stamped.Stamped.{Stamped}
use Rattle.abc_packet.specs.declared.log.Deed.{Deed}
use Rattle.abc_packet.specs.declared.log.Deed.TheVariants.{Asked, Arrived, Took, Turned, Passed}
use Rattle.abc_packet.specs.declared.log.Deed.TheVariants.{Stray}
use Rattle.abc_packet.specs.declared.log.Entry.{Entry}
use Rattle.abc_shape.specs.declared.layout.Layout.{Layout}
use Rattle.abc_shape.specs.Plans.{IsLink, actor_of, link_count}
use Rattle.abc_body.specs.Meanings.{Meaning}
use Rattle.abc_network.specs.Agents.{AgentState, Idle, AgentDoes}
use Rattle.abc_network.specs.Nodes.{NodeMachine}

-- An actor: its state, its logical clock and its log.
pub record Actor (S L : Type 0) : Type 0 where
  pub state : S
  pub clock : ℕ
  pub log : List (Entry L)

-- The state of a network: its agents and nodes in order, a list of stamped packets for each link,
-- and the numbers drawn.
pub record Net (B L N : Type 0) : Type 0 where
  pub agents : List (Actor (AgentState B L) L)
  pub nodes : List (Actor N L)
  pub links : List (List (Stamped L))
  pub drawn : List ℕ

-- What sets one network apart from others.
pub record Rules (L N : Type 0) : Type 1 where
  -- the shape, with the numbers of agents and nodes
  pub plan : Layout
  -- the greatest number that is drawn
  pub limit : ℕ
  -- where the turns begin, which pick the places
  pub pick : ℕ
  -- the nodes' table, and the state in which each node starts
  pub node : NodeMachine L N
  pub blank : N
  -- the link of an agent's next packet, by the count of its packets
  pub way : ℕ → ℕ → ℕ

-- This link ends at agent i.
abbrev pub EndsAtAgent : Layout → ℕ → ℕ → Type 0
EndsAtAgent p i link = (i < p.agents) × ((from : ℕ) × IsLink p link from i)

-- This link ends at node k.
abbrev pub EndsAtNode : Layout → ℕ → ℕ → Type 0
EndsAtNode p k link = (from : ℕ) × IsLink p link from (actor_of p k)

-- An event: one micro-step of one agent or node, with the entry that it logs.
pub data Event (L : Type 0) : Type 0 where
  AgentDid : ℕ → Entry L → Event L
  NodeDid : ℕ → Entry L → Event L

-- The i-th of a list is x, and becomes x'; all others stay.
abbrev pub Swaps : {X : Type 0} → ℕ → X → X → List X → List X → Type 0
Swaps i x x' [] ys = ⊥
Swaps i x x' (a ∷ rest) [] = ⊥
Swaps zero x x' (a ∷ rest) (b ∷ bs) = (a ≡ x) × (b ≡ x') × (bs ≡ rest)
Swaps (suc i) x x' (a ∷ rest) (b ∷ bs) = (b ≡ a) × Swaps i x x' rest bs

-- A packet is appended to the list of link l.
abbrev pub put_on : {X : Type 0} → ℕ → X → List (List X) → List (List X)
put_on l x [] = []
put_on zero x (q ∷ qs) = (q ++ x ∷ []) ∷ qs
put_on (suc l) x (q ∷ qs) = q ∷ put_on l x qs

-- Packets are sent in order, all with this clock.
abbrev pub sent : {L : Type 0} → ℕ → List (ℕ × Packet L) → List (List (Stamped L)) →
    List (List (Stamped L))
sent clock [] links = links
sent clock (s ∷ ss) links = sent clock ss
    (put_on s.0 (record { clock = clock; packet = s.1 }) links)

-- An arrival takes the first packet of its link, which ends here; other deeds take nothing.
abbrev pub FirstTaken : {L : Type 0} → (ℕ → Type 0) → Deed L → List (List (Stamped L)) →
    List (List (Stamped L)) → Type 0
FirstTaken {L} here (Arrived l x drew) links left =
    (q : List (Stamped L)) × here l × Swaps l (x ∷ q) q links left
FirstTaken {L} here (Stray l x) links left =
    (q : List (Stamped L)) × here l × Swaps l (x ∷ q) q links left
FirstTaken here Asked links left = left ≡ links
FirstTaken here (Took n place) links left = left ≡ links
FirstTaken here (Turned n place content) links left = left ≡ links
FirstTaken here (Passed n) links left = left ≡ links

-- The clock of the packet that a deed takes; 0 where it takes none.
abbrev pub taken_clock : {L : Type 0} → Deed L → ℕ
taken_clock Asked = 0
taken_clock (Arrived link stamped drew) = stamped.clock
taken_clock (Took n place) = 0
taken_clock (Turned n place content) = 0
taken_clock (Passed n) = 0
taken_clock (Stray link stamped) = stamped.clock

-- What a deed drew.
abbrev pub drawn_in : {L : Type 0} → Deed L → Option Grant
drawn_in Asked = None
drawn_in (Arrived link stamped drew) = drew
drawn_in (Took n place) = None
drawn_in (Turned n place content) = None
drawn_in (Passed n) = None
drawn_in (Stray link stamped) = None

-- How often a number was drawn.
abbrev pub times : ℕ → List ℕ → ℕ
times n [] = 0
times n (k ∷ ks) = (if k == n then 1 else 0) + times n ks

-- A draw gives a number from 1 to the limit that nobody has drawn, or answers that the numbers are
-- closed.
abbrev pub Draws : ℕ → List ℕ → Option Grant → List ℕ → Type 0
Draws limit drawn None drawn' = drawn' ≡ drawn
Draws limit drawn (Some Closed) drawn' = drawn' ≡ drawn
Draws limit drawn (Some (Number n)) drawn' =
    (0 < n) × (n ≤ limit) × (times n drawn ≡ 0) × (drawn' ≡ n ∷ drawn)

-- Each micro-step raises its actor's clock by one, above the clock of the packet that it takes, and
-- is logged.
abbrev pub Logs : {S L : Type 0} → Actor S L → Entry L → Actor S L → Type 0
Logs a e a' = (e.clock ≡ max a.clock (taken_clock e.deed) + 1) × (a'.clock ≡ e.clock)
    × (a'.log ≡ a.log ++ e ∷ [])

-- Agent i makes a micro-step by its table. It takes a packet from a link or none, and sends some.
pub record AgentStep {B L N : Type 0} (m : Meaning B L) (r : Rules L N) (w : Net B L N) (i : ℕ)
    (e : Entry L) (w' : Net B L N) : Type 0 where
  pub old : Actor (AgentState B L) L
  pub new : Actor (AgentState B L) L
  pub sends : List (ℕ × Packet L)
  pub left : List (List (Stamped L))
  pub row : AgentDoes m r.pick (r.way i) i old.state e.deed sends new.state
  pub logs : Logs old e new
  pub at : Swaps i old new w.agents w'.agents
  pub first : FirstTaken (EndsAtAgent r.plan i) e.deed w.links left
  pub links : w'.links ≡ sent e.clock sends left
  pub draws : Draws r.limit w.drawn (drawn_in e.deed) w'.drawn
  pub rest : w'.nodes ≡ w.nodes

-- Node k makes a micro-step by its table, likewise.
pub record NodeStep {B L N : Type 0} (m : Meaning B L) (r : Rules L N) (w : Net B L N) (k : ℕ)
    (e : Entry L) (w' : Net B L N) : Type 0 where
  pub old : Actor N L
  pub new : Actor N L
  pub sends : List (ℕ × Packet L)
  pub left : List (List (Stamped L))
  pub row : r.node.does k old.state e.deed sends new.state
  pub logs : Logs old e new
  pub at : Swaps k old new w.nodes w'.nodes
  pub first : FirstTaken (EndsAtNode r.plan k) e.deed w.links left
  pub links : w'.links ≡ sent e.clock sends left
  pub draws : Draws r.limit w.drawn (drawn_in e.deed) w'.drawn
  pub rest : w'.agents ≡ w.agents

abbrev pub NetStep : {B L N : Type 0} → Meaning B L → Rules L N → Net B L N → Event L → Net B L N →
    Type 0
NetStep m r w (AgentDid i e) w' = AgentStep m r w i e w'
NetStep m r w (NodeDid k e) w' = NodeStep m r w k e w'

-- A run: one event after the other.
abbrev pub Netrun : {B L N : Type 0} → Meaning B L → Rules L N → Net B L N → List (Event L) →
    Net B L N → Type 0
Netrun m r w [] w' = w' ≡ w
Netrun {B} {L} {N} m r w (e ∷ es) w' =
    (mid : Net B L N) × NetStep m r w e mid × Netrun m r mid es w'

-- At the start an agent has its body and nothing else.
abbrev pub starting : {B L : Type 0} → B → Actor (AgentState B L) L
starting b = record {
  state = record { body = b; front = 0; asking = Idle; stored = []; packets = 0 };
  clock = 0;
  log = [];
}

-- The start of a network: links, stores and logs are empty, and nothing is drawn.
abbrev pub start_of : {B L N : Type 0} → Rules L N → List B → Net B L N
start_of r bodies = record {
  agents = map starting bodies;
  nodes = replicate r.plan.nodes (record { state = r.blank; clock = 0; log = [] });
  links = replicate (link_count r.plan) [];
  drawn = [];
}
