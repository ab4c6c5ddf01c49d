-- What is laid on a network whose nodes store: a message is worth two events for each goal that it
-- will reach.
use Rattle.std.specs.Prelude.{ℕ, zero, suc, ◌+◌, ◌*◌, ◌<◌, ◌≤◌, List, length, Option, Some}
use Rattle.std.specs.Prelude.{None}
use Rattle.abc_value.specs.declared.grant.Grant.{Grant}
use Rattle.abc_packet.specs.declared.packets.Packet.{Packet}
use Rattle.abc_packet.specs.declared.packets.Packet.TheVariants.{Request, Reply, Message}
use Rattle.abc_shape.specs.declared.layout.Layout.{Layout}
use Rattle.abc_wait.specs.Waits.{item_beside}
use Rattle.abc_network.specs.Networks.{EndsAtAgent, EndsAtNode}
use Rattle.abc_network.specs.Stores.{Item, Store}
use Rattle.abc_network_laws.specs.Kept.{total}
use Rattle.abc_network_laws.specs.Charges.{Charge, of_packets, numbers_drawn}
use Rattle.abc_network_laws.specs.Flows.{ToAgent, ToNode}
use Rattle.abc_network_laws.specs.StoreFlows.{Kind}
use Rattle.abc_network_laws.specs.ClusterFlows.{grant_worth, asking_worth}

-- The sum of f over the numbers below n.
abbrev pub sum_below : ℕ → (ℕ → ℕ) → ℕ
sum_below zero f = 0
sum_below (suc n) f = f n + sum_below n f

-- How many goals a message of this sender on this link will reach.
abbrev pub led : {L : Type 0} → Kind L → ℕ → ℕ → ℕ
led g sender l =
    sum_below g.agents (λ j. g.leads sender l (ToAgent j))
    + sum_below g.nodes (λ j. g.leads sender l (ToNode j))

-- A stored message is worth its passing, and two for each goal that its copies will reach.
abbrev pub item_worth : {L : Type 0} → Kind L → ℕ → Option (Item L) → ℕ
item_worth g k None = 0
item_worth g k (Some item) = 1 + 2 * total (led g item.sender) (g.rows.outs k item.sender item.came)

-- A packet: a message as above, a request or a reply the hops that it has left, and the number that
-- a reply has.
abbrev pub store_weight : {L : Type 0} → Kind L → (ℕ → ℕ → ℕ) → (ℕ → ℕ → ℕ) → ℕ → ℕ → Packet L → ℕ
store_weight g request_hops reply_hops worth l (Request a) = request_hops l a
store_weight g request_hops reply_hops worth l (Reply a grant) =
    reply_hops l a + grant_worth worth grant
store_weight g request_hops reply_hops worth l (Message n sender content) = 2 * led g sender l

abbrev pub store_charge : {B L : Type 0} → Kind L → (ℕ → ℕ → ℕ) → (ℕ → ℕ → ℕ) → ℕ → ℕ →
    Charge B L (Store L)
store_charge g request_hops reply_hops worth limit = record {
  on_link = store_weight g request_hops reply_hops worth;
  on_agent = λ i s. asking_worth worth s.asking + length s.stored;
  on_node = λ k s. sum_below (limit + 1) (λ n. item_worth g k (item_beside s.stored n));
}

-- What a shape owes for this: each hop of a request or a reply pays one.
pub record Hops {L : Type 0} (g : Kind L) (plan : Layout) (way : ℕ → ℕ →
    ℕ) (request_hops reply_hops : ℕ → ℕ → ℕ)
    (worth : ℕ) : Type 0 where
  pub node : (k l : ℕ) (p : Packet L) (drew : Option Grant) (sends : List (ℕ × Packet L)) →
      g.rows.asking k l p drew sends → k < g.nodes → EndsAtNode plan k l → g.fits l p →
      of_packets (store_weight g request_hops reply_hops worth) sends + 1
      ≤ store_weight g request_hops reply_hops worth l p + numbers_drawn drew * worth
  -- an agent asks with at most 14 left, and the last hop brings the reply to it
  pub first : (i packets : ℕ) → i < g.agents → request_hops (way i packets) i ≤ 14
  pub last : (i l : ℕ) (grant : Grant) → EndsAtAgent plan i l → g.fits l (Reply i grant) →
      1 ≤ reply_hops l i
