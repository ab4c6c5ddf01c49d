-- Where the copies of a message are, and what each shape owes so that none goes astray.
use Rattle.std.specs.Prelude.{◌≡◌, ◌≢◌, ℕ, zero, suc, ◌+◌, ◌<◌, ◌≤◌, ◌==◌, nat_lt, List, [], ◌∷◌}
use Rattle.std.specs.Prelude.{length, Some, None, is_some, slice_get, if◌then◌else◌}
use Rattle.abc_value.specs.declared.grant.Grant.{Grant}
use Rattle.abc_packet.specs.declared.packets.Content.{Content}
use Rattle.abc_packet.specs.declared.packets.Packet.{Packet}
use Rattle.abc_packet.specs.declared.packets.Packet.TheVariants.{Request, Reply, Message}
use Rattle.abc_packet.specs.declared.stamped.Stamped.{Stamped}
use Rattle.abc_packet.specs.declared.log.Deed.{Deed}
use Rattle.abc_packet.specs.declared.log.Deed.TheVariants.{Asked, Arrived, Took, Turned, Passed}
use Rattle.abc_packet.specs.declared.log.Deed.TheVariants.{Stray}
use Rattle.abc_body.specs.Meanings.{Meaning}
use Rattle.abc_shape.specs.Plans.{link_count}
use Rattle.abc_wait.specs.Waits.{item_beside}
use Rattle.abc_network.specs.Agents.{AgentState, Asking, Idle, Waiting, Granted, Shut}
use Rattle.abc_network.specs.Networks.{Net, Actor, Rules, Event, AgentDid, NodeDid, times, drawn_in}
use Rattle.abc_network.specs.Networks.{EndsAtAgent, EndsAtNode}
use Rattle.abc_network.specs.Numbering.{Turn}
use Rattle.abc_network_laws.specs.Counts.{replies_number, draws_number, taken_packets}
use Rattle.abc_network_laws.specs.Kept.{Each, total, live, holds, sends_number}
use Rattle.abc_network_laws.specs.Charges.{Charge, charge, of_packets, taken_at}

-- Who is to get a message.
pub data Goal : Type 0 where
  ToAgent : ℕ → Goal
  ToNode : ℕ → Goal

-- What a shape says of its paths and of its nodes' stores.
pub record Flow (L N : Type 0) : Type 1 where
  pub agents : ℕ
  pub links : ℕ
  -- which states node k can have
  pub sound : ℕ → N → Type 0
  -- 1 where a message of this sender on this link will reach this goal
  pub leads : ℕ → ℕ → Goal → ℕ
  -- 1 where each message reaches this goal
  pub reached : Goal → ℕ
  -- 1 where node k has this number for this goal: it stores it and will send it there, or is the
  -- goal and has had it
  pub carries : ℕ → N → ℕ → Goal → ℕ
  -- the number that a node waits for
  pub next : N → ℕ
  -- whether such a packet may be on this link
  pub fits : ℕ → Packet L → Type 0

-- 1 where the packet is message n, and will reach the goal from this link.
abbrev pub message_on : {L : Type 0} → (ℕ → ℕ → Goal → ℕ) → ℕ → Goal → ℕ → Packet L → ℕ
message_on leads n goal link (Request agent) = 0
message_on leads n goal link (Reply agent grant) = 0
message_on leads n goal link (Message k sender content) =
    if k == n then leads sender link goal else 0

-- 1 where the agent stores this number, or has it behind its front.
abbrev pub has_number : {B L : Type 0} → ℕ → AgentState B L → ℕ
has_number n s = (if is_some (item_beside s.stored n) then 1 else 0)
    + (if nat_lt s.front n then 0 else 1)

abbrev pub agent_has : {B L : Type 0} → ℕ → Goal → ℕ → AgentState B L → ℕ
agent_has n (ToAgent j) i s = if i == j then has_number n s else 0
agent_has n (ToNode k) i s = 0

-- The copies of number n for a goal, under way or there.
abbrev pub copies : {B L N : Type 0} → Flow L N → ℕ → Goal → Charge B L N
copies f n goal = record {
  on_link = message_on f.leads n goal;
  on_agent = agent_has n goal;
  on_node = λ k s. f.carries k s n goal;
}

-- 1 where the packet is a request or a reply of agent a.
abbrev pub asks_on : {L : Type 0} → ℕ → ℕ → Packet L → ℕ
asks_on a link (Request agent) = if agent == a then 1 else 0
asks_on a link (Reply agent grant) = if agent == a then 1 else 0
asks_on a link (Message k sender content) = 0

abbrev pub not_waiting : Asking → ℕ
not_waiting Idle = 1
not_waiting Waiting = 0
not_waiting (Granted n) = 1
not_waiting Shut = 1

-- The requests and replies of agent a, and one where it doesn't wait.
abbrev pub asks : {B L N : Type 0} → ℕ → Charge B L N
asks a = record {
  on_link = asks_on a;
  on_agent = λ i s. if i == a then not_waiting s.asking else 0;
  on_node = λ k s. 0;
}

-- F of each packet, with its link.
abbrev pub EachOn : {L : Type 0} → (ℕ → Packet L → Type 0) → List (List (Stamped L)) → Type 0
EachOn F [] = Unit {0}
EachOn F (q ∷ qs) = Each (λ x. F zero x.packet) q × EachOn (λ l. F (suc l)) qs

-- What stands after every event, beside Kept.
pub record Placed {B L N : Type 0} (f : Flow L N) (ts : List (Turn L))
    (w : Net B L N) : Type 0 where
  pub agents : length w.agents ≡ f.agents
  pub links : length w.links ≡ f.links
  -- 0 is not drawn
  pub positive : times 0 w.drawn ≡ 0
  -- each node has a state that it can have
  pub sound : (k : ℕ) (a : Actor N L) → slice_get w.nodes k ≡ Some a → f.sound k a.state
  -- each packet may be on its link
  pub fits : EachOn f.fits w.links
  -- an agent waits exactly while one request or reply of it is under way
  pub asked : (a : ℕ) → a < f.agents → charge (asks a) w ≡ 1
  -- a number that is drawn and not turned is under way to an agent, or an agent has it
  pub granted : (n : ℕ) → length ts < n → live n w ≡ times n w.drawn
  -- a number that was turned is under way to each goal, or there
  pub under_way : (n : ℕ) (goal : Goal) → 0 < n → n ≤ length ts →
      charge (copies f n goal) w ≡ f.reached goal
  -- and no other is
  pub unsent : (n : ℕ) (goal : Goal) → length ts < n → charge (copies f n goal) w ≡ 0

-- Nothing is on a link, and no actor can go on by itself.
pub record Still {B L N : Type 0} (m : Meaning B L) (f : Flow L N) (w : Net B L N) : Type 0 where
  pub links : Each (λ q. q ≡ []) w.links
  pub takes : (i : ℕ) (a : Actor (AgentState B L) L) → slice_get w.agents i ≡ Some a →
      item_beside a.state.stored (a.state.front + 1) ≡ None
  pub turns : (i : ℕ) (a : Actor (AgentState B L) L) → slice_get w.agents i ≡ Some a →
      a.state.asking ≢ Granted (a.state.front + 1)
  pub passes : (k : ℕ) (a : Actor N L) → slice_get w.nodes k ≡ Some a → (goal : Goal) →
      f.carries k a.state (f.next a.state) goal ≡ 0

-- What a shape owes for the end.
pub record Ends {L N : Type 0} (f : Flow L N) (r : Rules L N) : Type 0 where
  pub reaches_agents : (i : ℕ) → i < f.agents → f.reached (ToAgent i) ≡ 1
  -- what a node carries for others is not below the number that it waits for
  pub low : (k : ℕ) (s : N) (n : ℕ) (goal : Goal) → f.sound k s → 1 ≤ f.carries k s n goal →
      goal ≢ ToNode k →
      (f.next s ≤ n) × (f.reached (ToNode k) ≡ 1)
  pub from_one : (k : ℕ) (s : N) → f.sound k s → 0 < f.next s
  -- nor is what it stores
  pub stored : (k : ℕ) (s : N) (n sender : ℕ) (content : Content L) → f.sound k s →
      r.node.holds s n sender content →
      (f.next s ≤ n) × (f.reached (ToNode k) ≡ 1)
  -- where it can't pass it doesn't carry that number
  pub stuck : (k : ℕ) (s : N) (goal : Goal) → (r.node.can_pass s → ⊥) →
      f.carries k s (f.next s) goal ≡ 0
  -- a node starts soundly, and carries nothing
  pub blank_sound : (k : ℕ) → k < r.plan.nodes → f.sound k r.blank
  pub blank_bare : (k n : ℕ) (goal : Goal) → 0 < n → f.carries k r.blank n goal ≡ 0
  pub blank_holds : (n sender : ℕ) (content : Content L) → r.node.holds r.blank n sender content → ⊥

-- 1 where the goal is this agent.
abbrev pub at_agent : ℕ → Goal → ℕ
at_agent i (ToAgent j) = if i == j then 1 else 0
at_agent i (ToNode k) = 0

abbrev pub NotStray : {L : Type 0} → Deed L → Type 0
NotStray (Stray link stamped) = ⊥
NotStray Asked = Unit {0}
NotStray (Arrived link stamped drew) = Unit {0}
NotStray (Took n place) = Unit {0}
NotStray (Turned n place content) = Unit {0}
NotStray (Passed n) = Unit {0}

-- The facts on the plan.
pub record Ways {L N : Type 0} (f : Flow L N) (r : Rules L N) : Type 1 where
  -- to an agent come its own replies, and messages, which end there
  pub no_request : (i l a : ℕ) → EndsAtAgent r.plan i l → f.fits l (Request a) → ⊥
  pub own_reply : (i l a : ℕ) (g : Grant) → EndsAtAgent r.plan i l → f.fits l (Reply a g) → a ≡ i
  pub positive : (l n sender : ℕ) (content : Content L) → f.fits l (Message n sender content) →
      0 < n
  pub arrives : (i l n sender : ℕ) (content : Content L) → EndsAtAgent r.plan i l →
      f.fits l (Message n sender content) → (goal : Goal) → f.leads sender l goal ≡ at_agent i goal
  -- an agent's packets go on links that are there, and fit
  pub there : (i packets : ℕ) → i < f.agents → r.way i packets < f.links
  pub request : (i packets : ℕ) → i < f.agents → f.fits (r.way i packets) (Request i)
  pub message : (i packets n : ℕ) (content : Content L) → i < f.agents → 0 < n →
      f.fits (r.way i packets) (Message n i content)
  -- from there a message reaches every goal but its sender
  pub starts : (i packets : ℕ) → i < f.agents → (goal : Goal) →
      f.leads i (r.way i packets) goal + at_agent i goal ≡ f.reached goal
  pub once : (goal : Goal) → f.reached goal ≤ 1
  -- the counts of the plan
  pub agents_are : f.agents ≡ r.plan.agents
  pub links_are : f.links ≡ link_count r.plan

-- A packet with its link, which may come to node k.
abbrev pub Comes : {L N : Type 0} → Flow L N → Rules L N → ℕ → ℕ × Packet L → Type 0
Comes f r k x = EndsAtNode r.plan k x.0 × f.fits x.0 x.1

-- What each row of a shape's node keeps.
pub record Carries {L N : Type 0} (f : Flow L N) (r : Rules L N) : Type 0 where
  pub sound : (k : ℕ) (s : N) (d : Deed L) (sends : List (ℕ × Packet L)) (s' : N) →
      r.node.does k s d sends s' →
      NotStray d → f.sound k s → Each (Comes f r k) (taken_at d) → f.sound k s'
  -- what it sends is on a link that is there, and fits
  pub fits : (k : ℕ) (s : N) (d : Deed L) (sends : List (ℕ × Packet L)) (s' : N) →
      r.node.does k s d sends s' →
      NotStray d → f.sound k s → Each (Comes f r k) (taken_at d) →
      Each (λ x. (x.0 < f.links) × f.fits x.0 x.1) sends
  -- for each goal there are as many copies as before
  pub copies : (k : ℕ) (s : N) (d : Deed L) (sends : List (ℕ × Packet L)) (s' : N) →
      r.node.does k s d sends s' →
      NotStray d → f.sound k s → Each (Comes f r k) (taken_at d) → (n : ℕ) (goal : Goal) →
      of_packets (message_on f.leads n goal) sends + f.carries k s' n goal
      ≡ of_packets (message_on f.leads n goal) (taken_at d) + f.carries k s n goal
  -- and as many requests and replies of each agent
  pub asks : (k : ℕ) (s : N) (d : Deed L) (sends : List (ℕ × Packet L)) (s' : N) →
      r.node.does k s d sends s' →
      NotStray d → (a : ℕ) → of_packets (asks_on a) sends ≡ of_packets (asks_on a) (taken_at d)
  -- and as many replies to each number, with what was drawn
  pub replies : (k : ℕ) (s : N) (d : Deed L) (sends : List (ℕ × Packet L)) (s' : N) →
      r.node.does k s d sends s' →
      NotStray d → (n : ℕ) →
      total (sends_number n) sends ≡ total (replies_number n) (taken_packets d)
      + draws_number n (drawn_in d)
  -- a packet that fits, and whose number is not yet here, has a row
  pub strays : (k l : ℕ) (s : N) (x : Stamped L) (sends : List (ℕ × Packet L)) (s' : N) →
      r.node.does k s (Stray l x) sends s' → f.sound k s → EndsAtNode r.plan k l →
      f.fits l x.packet →
      ((n : ℕ) → 0 < n → message_on f.leads n (ToNode k) l x.packet
      + f.carries k s n (ToNode k) ≤ 1) → ⊥

-- Replies and grants of a number, as a charge.
abbrev pub grants : {B L N : Type 0} → ℕ → Charge B L N
grants n = record {
  on_link = λ l p. replies_number n p;
  on_agent = λ i s. holds n s.asking;
  on_node = λ k s. 0;
}

abbrev pub deed_of : {L : Type 0} → Event L → Deed L
deed_of (AgentDid i e) = e.deed
deed_of (NodeDid i e) = e.deed
