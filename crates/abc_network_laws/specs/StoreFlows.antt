-- What is to be shown of a shape whose nodes store.
use Rattle.std.specs.Prelude.{◌≡◌, ℕ, ◌+◌, ◌<◌, ◌≤◌, ◌==◌, nat_lt, List, Option, Some, None}
use Rattle.std.specs.Prelude.{if◌then◌else◌}
use Rattle.abc_value.specs.declared.grant.Grant.{Grant}
use Rattle.abc_packet.specs.declared.packets.Content.{Content}
use Rattle.abc_packet.specs.declared.packets.Packet.{Packet}
use Rattle.abc_packet.specs.declared.packets.Packet.TheVariants.{Request, Reply, Message}
use Rattle.abc_shape.specs.declared.layout.Layout.{Layout}
use Rattle.abc_wait.specs.Waits.{item_beside}
use Rattle.abc_network.specs.Stores.{Item, Store, StoreKind, store_machine, blank_store}
use Rattle.abc_network.specs.Networks.{Rules, EndsAtNode}
use Rattle.abc_network_laws.specs.Counts.{IfMessage, replies_number, draws_number}
use Rattle.abc_network_laws.specs.Kept.{Each, total, sends_number}
use Rattle.abc_network_laws.specs.Charges.{of_packets}
use Rattle.abc_network_laws.specs.Flows.{Flow, Goal, ToAgent, ToNode, message_on, asks_on}

-- A shape's rows, with its paths.
pub record Kind (L : Type 0) : Type 1 where
  pub rows : StoreKind L
  pub agents : ℕ
  pub nodes : ℕ
  pub links : ℕ
  -- 1 where a message of this sender on this link will reach this goal
  pub leads : ℕ → ℕ → Goal → ℕ
  pub reached : Goal → ℕ
  -- whether such a packet may be on this link
  pub fits : ℕ → Packet L → Type 0

-- 1 where the goal is this node.
abbrev pub at_node : ℕ → Goal → ℕ
at_node k (ToAgent j) = 0
at_node k (ToNode j) = if k == j then 1 else 0

-- How many of these links lead a message of this sender to the goal.
abbrev pub lead_all : (ℕ → ℕ → Goal → ℕ) → ℕ → Goal → List ℕ → ℕ
lead_all leads sender goal links = total (λ l. leads sender l goal) links

-- A stored message is for its node, and for those to which it will go on.
abbrev pub item_leads : {L : Type 0} → Kind L → ℕ → Goal → Option (Item L) → ℕ
item_leads g k goal None = 0
item_leads g k goal (Some item) = at_node k goal
    + lead_all g.leads item.sender goal (g.rows.outs k item.sender item.came)

-- A node has the messages that it has passed, and those that it stores.
abbrev pub store_carries : {L : Type 0} → Kind L → ℕ → Store L → ℕ → Goal → ℕ
store_carries g k s n goal =
    (if nat_lt n s.next then at_node k goal else 0) + item_leads g k goal (item_beside s.stored n)

-- The states that node k can have: what it stores is not passed yet, and came where it may come.
pub record StoreSound {L : Type 0} (g : Kind L) (k : ℕ) (s : Store L) : Type 0 where
  pub among : k < g.nodes
  pub low : 0 < s.next
  pub items : (n : ℕ) (item : Item L) → item_beside s.stored n ≡ Some item →
      (s.next ≤ n) × g.rows.accepts k item.came item.sender

abbrev pub store_flow : {L : Type 0} → Kind L → Flow L (Store L)
store_flow g = record {
  agents = g.agents;
  links = g.links;
  sound = StoreSound g;
  leads = g.leads;
  reached = g.reached;
  carries = store_carries g;
  next = λ s. s.next;
  fits = g.fits;
}

abbrev pub store_rules : {L : Type 0} → Kind L → Layout → ℕ → ℕ → (ℕ → ℕ → ℕ) → Rules L (Store L)
store_rules g plan limit pick way = record {
  plan = plan;
  limit = limit;
  pick = pick;
  node = store_machine g.rows;
  blank = blank_store;
  way = way;
}

-- What a request or a reply does at a node of this plan.
pub record AskLaws {L : Type 0} (g : Kind L) (plan : Layout) : Type 1 where
  -- each that fits has a row
  pub request_row : (k l a : ℕ) → EndsAtNode plan k l → g.fits l (Request a) →
      (drew : Option Grant) × (sends : List (ℕ × Packet L))
      × g.rows.asking k l (Request a) drew sends
  pub reply_row : (k l a : ℕ) (grant : Grant) → EndsAtNode plan k l → g.fits l (Reply a grant) →
      (drew : Option Grant) × (sends : List (ℕ × Packet L))
      × g.rows.asking k l (Reply a grant) drew sends
  -- what is sent on is on a link that is there, and fits
  pub fits : (k l : ℕ) (p : Packet L) (drew : Option Grant) (sends : List (ℕ × Packet L)) →
      g.rows.asking k l p drew sends → EndsAtNode plan k l → g.fits l p →
      Each (λ x. (x.0 < g.links) × g.fits x.0 x.1) sends
  -- it is no message,
  pub none : (P : ℕ → ℕ → Content L →
      Type 0) (k l : ℕ) (p : Packet L) (drew : Option Grant) (sends : List (ℕ × Packet L)) →
      g.rows.asking k l p drew sends → Each (λ x. IfMessage P x.1) sends
  pub messages : (k l : ℕ) (p : Packet L) (drew : Option Grant) (sends : List (ℕ × Packet L)) →
      g.rows.asking k l p drew sends → (n : ℕ) (goal : Goal) →
      of_packets (message_on g.leads n goal) sends ≡ 0
  -- but one request or reply of the same agent, with the same number or the one that was drawn
  pub asks : (k l : ℕ) (p : Packet L) (drew : Option Grant) (sends : List (ℕ × Packet L)) →
      g.rows.asking k l p drew sends → (a : ℕ) → of_packets (asks_on a) sends ≡ asks_on a l p
  pub replies : (k l : ℕ) (p : Packet L) (drew : Option Grant) (sends : List (ℕ × Packet L)) →
      g.rows.asking k l p drew sends → (n : ℕ) →
      total (sends_number n) sends ≡ replies_number n p + draws_number n drew

-- What is left to be shown of a ring, and of a tree.
pub record KindLaws {L : Type 0} (g : Kind L) (plan : Layout) : Type 1 where
  -- the one fact on paths: the copies of a message go on to just what it led to
  pub flow : (k l sender : ℕ) → g.rows.accepts k l sender → (goal : Goal) →
      g.leads sender l goal ≡ at_node k goal + lead_all g.leads sender goal (g.rows.outs k sender l)
  -- they go on links that are there, and fit
  pub out_fits : (k l sender n : ℕ) (content : Content L) → g.rows.accepts k l sender → 0 < n →
      Each (λ o. (o < g.links) × g.fits o (Message n sender content)) (g.rows.outs k sender l)
  -- a message that fits is accepted
  pub message_row : (k l n sender : ℕ) (content : Content L) → EndsAtNode plan k l →
      g.fits l (Message n sender content) →
      (0 < n) × g.rows.accepts k l sender
  pub asking : AskLaws g plan
  -- each message reaches every node and every agent
  pub reaches_nodes : (k : ℕ) → k < g.nodes → g.reached (ToNode k) ≡ 1
  pub reaches_agents : (i : ℕ) → i < g.agents → g.reached (ToAgent i) ≡ 1
  pub nodes_are : g.nodes ≡ plan.nodes
