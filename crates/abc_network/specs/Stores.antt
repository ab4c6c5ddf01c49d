-- A node that stores messages and passes them in order of number. The nodes of a ring and of a tree
-- are of this kind.
use Rattle.std.specs.Prelude.{◌≡◌, ℕ, ◌+◌, ◌≤◌, List, [], ◌∷◌, Option, Some, None}
use Rattle.abc_value.specs.declared.grant.Grant.{Grant}
use Rattle.abc_packet.specs.declared.packets.Content.{Content}
use Rattle.abc_packet.specs.declared.packets.Packet.{Packet}
use Rattle.abc_packet.specs.declared.packets.Packet.TheVariants.{Request, Reply, Message}
use Rattle.abc_packet.specs.declared.log.Deed.{Deed}
use Rattle.abc_packet.specs.declared.log.Deed.TheVariants.{Asked, Arrived, Took, Turned, Passed}
use Rattle.abc_packet.specs.declared.log.Deed.TheVariants.{Stray}
use Rattle.abc_wait.specs.Waits.{item_beside}
use Rattle.abc_network.specs.Stored.{Gains, Loses}
use Rattle.abc_network.specs.Nodes.{NodeMachine}

-- A stored message: who said it, what, and the link on which it came.
pub record Item (L : Type 0) : Type 0 where
  pub sender : ℕ
  pub content : Content L
  pub came : ℕ

-- The state: the number that it passes next, 1 at first, and the messages stored by number.
pub record Store (L : Type 0) : Type 0 where
  pub next : ℕ
  pub stored : List (ℕ × Item L)

-- What the rows of one shape say.
pub record StoreKind (L : Type 0) : Type 1 where
  -- node k takes messages of this sender from this link
  pub accepts : ℕ → ℕ → ℕ → Type 0
  -- the links on which node k passes a message on, by its sender and the link on which it came
  pub outs : ℕ → ℕ → ℕ → List ℕ
  -- what node k does with a request or a reply that comes on a link: what it draws, and what it
  -- sends
  pub asking : ℕ → ℕ → Packet L → Option Grant → List (ℕ × Packet L) → Type 0

-- A packet is sent on each of the links.
abbrev pub to_each : {L : Type 0} → List ℕ → Packet L → List (ℕ × Packet L)
to_each [] p = []
to_each (l ∷ ls) p = (l, p) ∷ to_each ls p

-- Arrive, a message: it is stored under its number, which is not passed yet and not stored.
pub record StoresItem {L : Type 0} (g : StoreKind L) (k : ℕ) (s : Store L) (l n sender : ℕ)
    (content : Content L)
    (drew : Option Grant) (out : List (ℕ × Packet L)) (s' : Store L) : Type 0 where
  pub late : s.next ≤ n
  pub free : item_beside s.stored n ≡ None
  pub comes : g.accepts k l sender
  pub no_draw : drew ≡ None
  pub sends : out ≡ []
  pub gains : Gains s.stored n (record { sender = sender; content = content; came = l }) s'.stored
  pub after : s' ≡ record s { stored = s'.stored }

-- Pass: the message of the next number leaves the store and goes on.
pub record PassesItem {L : Type 0} (g : StoreKind L) (k : ℕ) (s : Store L) (n : ℕ)
    (out : List (ℕ × Packet L)) (s' : Store L) : Type 0 where
  pub item : Item L
  pub is_next : n ≡ s.next
  pub waits : item_beside s.stored n ≡ Some item
  pub sends : out ≡ to_each (g.outs k item.sender item.came) (Message n item.sender item.content)
  pub loses : Loses s.stored n s'.stored
  pub after : s' ≡ record s { next = n + 1; stored = s'.stored }

-- What a node takes, by packet.
abbrev pub StoreTakes : {L : Type 0} → StoreKind L → ℕ → Store L → ℕ → Packet L → Option Grant →
    List (ℕ × Packet L) → Store L → Type 0
StoreTakes g k s l (Message n sender content) drew out s' =
    StoresItem g k s l n sender content drew out s'
StoreTakes g k s l (Request agent) drew out s' = g.asking k l (Request agent) drew out × (s' ≡ s)
StoreTakes g k s l (Reply agent grant) drew out s' =
    g.asking k l (Reply agent grant) drew out × (s' ≡ s)

-- The table of such a node. A packet that has no row is a stray, and changes nothing.
abbrev pub StoreDoes : {L : Type 0} → StoreKind L → ℕ → Store L → Deed L → List (ℕ × Packet L) →
    Store L → Type 0
StoreDoes g k s (Arrived l x drew) out s' = StoreTakes g k s l x.packet drew out s'
StoreDoes g k s (Passed n) out s' = PassesItem g k s n out s'
StoreDoes {L} g k s (Stray l x) out s' =
    ((drew : Option Grant) (some : List (ℕ × Packet L)) (t : Store L) →
    StoreTakes g k s l x.packet drew some t → ⊥)
    × (out ≡ []) × (s' ≡ s)
StoreDoes g k s Asked out s' = ⊥
StoreDoes g k s (Took n place) out s' = ⊥
StoreDoes g k s (Turned n place content) out s' = ⊥

abbrev pub blank_store : {L : Type 0} → Store L
blank_store = record { next = 1; stored = [] }

abbrev pub store_machine : {L : Type 0} → StoreKind L → NodeMachine L (Store L)
store_machine {L} g = record {
  does = StoreDoes g;
  holds = λ s n sender content.
      (item : Item L) × (item_beside s.stored n ≡ Some item) × (item.sender ≡ sender)
      × (item.content ≡ content);
  can_pass = λ s. (item : Item L) × (item_beside s.stored s.next ≡ Some item);
}
