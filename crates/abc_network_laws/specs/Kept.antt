-- What stands after every event, whatever the shape.
use Rattle.std.specs.Prelude.{◌≡◌, ℕ, ◌+◌, ◌<◌, ◌≤◌, ◌==◌, List, [], ◌∷◌, length, Option, Some}
use Rattle.std.specs.Prelude.{slice_get, if◌then◌else◌}
use Rattle.abc_packet.specs.declared.packets.Content.{Content}
use Rattle.abc_packet.specs.declared.packets.Packet.{Packet}
use Rattle.abc_packet.specs.declared.stamped.Stamped.{Stamped}
use Rattle.abc_packet.specs.declared.log.Deed.{Deed}
use Rattle.abc_body.specs.Meanings.{Meaning}
use Rattle.abc_wait.specs.Waits.{item_beside}
use Rattle.abc_network.specs.Agents.{AgentState, Asking, Idle, Waiting, Granted, Shut}
use Rattle.abc_network.specs.Nodes.{NodeMachine}
use Rattle.abc_network.specs.Networks.{Net, Actor, Rules, times, drawn_in}
use Rattle.abc_network.specs.Numbering.{Turn, places_of}
use Rattle.abc_network_laws.specs.Counts.{IfMessage, taken_packets, replies_number, draws_number}
use Rattle.abc_network_laws.specs.Moves.{Lives}

-- P of each element.
abbrev pub Each : {X : Type 0} → (X → Type 0) → List X → Type 0
Each P [] = Unit {0}
Each P (x ∷ xs) = P x × Each P xs

-- The sum over a list.
abbrev pub total : {X : Type 0} → (X → ℕ) → List X → ℕ
total f [] = 0
total f (x ∷ xs) = f x + total f xs

-- Number n was turned by this sender with this content.
abbrev pub Says : {L : Type 0} → List (Turn L) → ℕ → ℕ → Content L → Type 0
Says {L} ts n sender content =
    (k : ℕ) × (t : Turn L) × (n ≡ k + 1) × (slice_get ts k ≡ Some t) × (t.sender ≡ sender)
    × (t.content ≡ content)

-- A number above the front, with the content that was turned at it.
abbrev pub Stores : {L : Type 0} → List (Turn L) → ℕ → ℕ → Content L → Type 0
Stores ts front n content = (sender : ℕ) × (front < n) × Says ts n sender content

-- What is known of agent i, where these turns were made, and `ps` are the places of its log.
pub record AgentKept {B L : Type 0} (m : Meaning B L) (bodies : List B) (ts : List (Turn L))
    (i : ℕ) (s : AgentState B L) (ps : List (Option ℕ)) : Type 0 where
  -- its front is at most the count of the turns
  pub within : s.front ≤ length ts
  -- its log has one place for each number up to its front
  pub counted : length ps ≡ s.front
  -- its body has made its own moves at these numbers
  pub lives : (b : B) → slice_get bodies i ≡ Some b → Lives m i b ts ps s.body
  -- its own numbers are not above its front
  pub own : (k : ℕ) (t : Turn L) → slice_get ts k ≡ Some t → t.sender ≡ i → k < s.front
  -- what it stores is above its front, and is what was turned
  pub stored : (n : ℕ) (content : Content L) → item_beside s.stored n ≡ Some content →
      Stores ts s.front n content

-- 1 where the agent has this number to turn.
abbrev pub holds : ℕ → Asking → ℕ
holds n Idle = 0
holds n Waiting = 0
holds n (Granted k) = if k == n then 1 else 0
holds n Shut = 0

abbrev pub holds_number : {B L : Type 0} → ℕ → Actor (AgentState B L) L → ℕ
holds_number n a = holds n a.state.asking

abbrev pub on_link : {L : Type 0} → ℕ → Stamped L → ℕ
on_link n x = replies_number n x.packet

-- How many replies and agents have number n.
abbrev pub live : {B L N : Type 0} → ℕ → Net B L N → ℕ
live n w = total (total (on_link n)) w.links + total (holds_number n) w.agents

-- A message says what was turned.
abbrev pub Honest : {L : Type 0} → List (Turn L) → Stamped L → Type 0
Honest ts x = IfMessage (Says ts) x.packet

-- P of all messages that a node stores.
abbrev pub HoldsHonest : {L N : Type 0} → NodeMachine L N → (ℕ → ℕ → Content L → Type 0) → N →
    Type 0
HoldsHonest {L} node P s = (n sender : ℕ) (content : Content L) → node.holds s n sender content →
    P n sender content

-- A node holds nothing at its start.
abbrev pub IsBlank : {L N : Type 0} → Rules L N → Type 0
IsBlank {L} r = (n sender : ℕ) (content : Content L) → r.node.holds r.blank n sender content → ⊥

-- What is known of the whole network, where these turns were made.
pub record Kept {B L N : Type 0} (m : Meaning B L) (r : Rules L N) (bodies : List B)
    (ts : List (Turn L)) (w : Net B L N) : Type 0 where
  -- of each agent
  pub agents : (i : ℕ) (a : Actor (AgentState B L) L) → slice_get w.agents i ≡ Some a →
      AgentKept m bodies ts i a.state (places_of a.log)
  pub many : length w.agents ≡ length bodies
  -- each turn's sender is one of the agents
  pub senders : Each (λ t. t.sender < length bodies) ts
  -- messages on links and in nodes say what was turned
  pub links : Each (Each (Honest ts)) w.links
  pub nodes : Each (λ a. HoldsHonest r.node (Says ts) a.state) w.nodes
  -- what has a number was drawn, and each number was drawn at most once
  pub live_drawn : (n : ℕ) → live n w ≤ times n w.drawn
  pub once : (n : ℕ) → times n w.drawn ≤ 1
  -- a number that was turned was drawn, and nobody has it any more
  pub turned : (n : ℕ) → 0 < n → n ≤ length ts → (times n w.drawn ≡ 1) × (live n w ≡ 0)

abbrev pub sends_number : {L : Type 0} → ℕ → ℕ × Packet L → ℕ
sends_number n s = replies_number n s.1

-- What a shape owes for this: its nodes make up neither messages nor numbers.
pub record Relays {L N : Type 0} (node : NodeMachine L N) : Type 1 where
  -- what it sends or stores is what it took or stored
  pub messages : (P : ℕ → ℕ → Content L →
      Type 0) (k : ℕ) (s : N) (d : Deed L) (sends : List (ℕ × Packet L)) (s' : N) →
      node.does k s d sends s' → Each (IfMessage P) (taken_packets d) → HoldsHonest node P s →
      Each (λ x. IfMessage P x.1) sends × HoldsHonest node P s'
  -- the replies to a number are at most those that it took, and what it drew
  pub replies : (n k : ℕ) (s : N) (d : Deed L) (sends : List (ℕ × Packet L)) (s' : N) →
      node.does k s d sends s' →
      total (sends_number n) sends ≤ total (replies_number n) (taken_packets d)
      + draws_number n (drawn_in d)
