-- A node that stores messages as contracts see it, and its micro-steps.
use Rattle.std.specs.Prelude.{◌≡◌, ℕ, ◌≤◌, List, [], Option, Some, None}
use Rattle.abc_value.specs.declared.grant.Grant.{Grant}
use Rattle.abc_packet.specs.declared.packets.Packet.{Packet}
use Rattle.abc_packet.specs.declared.packets.Packet.TheVariants.{Request, Reply, Message}
use Rattle.abc_packet.specs.declared.stamped.Stamped.{Stamped}
use Rattle.abc_packet.specs.Outlets.{Lists}
use Rattle.abc_wait.specs.Waits.{item_beside}
use Rattle.abc_network.specs.Networks.{Actor}
use Rattle.abc_network.specs.Stores.{StoreKind, Store, Item, StoreDoes, to_each}
use Rattle.abc_logs.specs.MicroSteps.{Makes, stamped_with}
use Rattle.abc_history.specs.Nodes.{Arrives}

-- A node in code: its rows, and the actor that it is.
pub record Storer (R L : Type 0) : Type 0 where
  pub rows : R
  pub actor : Actor (Store L) L

-- The message that is passed next is stored.
abbrev pub CanPass : {L : Type 0} → Store L → Type 0
CanPass {L} s = (item : Item L) × (item_beside s.stored s.next ≡ Some item)

-- The number is not passed yet, and no message is stored under it.
abbrev pub IsFree : {L : Type 0} → Store L → ℕ → Type 0
IsFree s n = (s.next ≤ n) × (item_beside s.stored n ≡ None)

-- It is a request or a reply.
abbrev pub IsAsking : {L : Type 0} → Packet L → Type 0
IsAsking (Request agent) = Unit {0}
IsAsking (Reply agent grant) = Unit {0}
IsAsking (Message n sender content) = ⊥

-- A packet arrives at such a node: one micro-step of its table.
abbrev pub ArrivesBy : {L : Type 0} → StoreKind L → ℕ → ℕ → Stamped L → Actor (Store L) L →
    Actor (Store L) L → Lists L → Lists L → (Option Grant → Type 0) → Type 0
ArrivesBy g k link stamped old new before after drew =
    Arrives (StoreDoes g k) link stamped old new before after drew

-- It passes a message on: one micro-step of its table that takes nothing from a link.
abbrev pub PassesBy : {L : Type 0} → StoreKind L → ℕ → Actor (Store L) L → Actor (Store L) L →
    Lists L → Lists L → Type 0
PassesBy g k old new before after = Makes (StoreDoes g k) [] old new before after

-- There is a row for a message of this number and sender that comes on a link.
abbrev pub IsTaken : {L : Type 0} → StoreKind L → ℕ → Store L → ℕ → ℕ → ℕ → Type 0
IsTaken g k s link n sender = g.accepts k link sender × IsFree s n

-- All of these links are among those.
abbrev pub HasAll : (ℕ → Type 0) → (ℕ → Type 0) → Type 0
HasAll leaves has = (link : ℕ) → leaves link → has link

-- These are the copies of the message that is passed next: one for each link on which it goes on,
-- in order, with this clock.
abbrev pub AreToPass : {L : Type 0} → StoreKind L → ℕ → Store L → ℕ → List (ℕ × Stamped L) → Type 0
AreToPass {L} g k s clock sends =
    (item : Item L) × (item_beside s.stored s.next ≡ Some item)
    × (sends ≡ stamped_with clock
    (to_each (g.outs k item.sender item.came) (Message s.next item.sender item.content)))
