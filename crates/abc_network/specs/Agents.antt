-- The agent: its state, and what it does in one micro-step. Each record, or line of a case, is a
-- row of its table.
use Rattle.std.specs.Prelude.{◌≡◌, ◌≢◌, ℕ, ◌+◌, ◌<◌, List, [], ◌∷◌, Option, Some, None}
use Rattle.abc_value.specs.declared.grant.Grant.{Grant}
use Rattle.abc_value.specs.declared.grant.Grant.TheVariants.{Number, Closed}
use Rattle.abc_packet.specs.declared.packets.Content.{Content}
use Rattle.abc_packet.specs.declared.packets.Content.TheVariants.{Said, Empty}
use Rattle.abc_packet.specs.declared.packets.Packet.{Packet}
use Rattle.abc_packet.specs.declared.packets.Packet.TheVariants.{Request, Reply, Message}
use Rattle.abc_packet.specs.declared.log.Deed.{Deed}
use Rattle.abc_packet.specs.declared.log.Deed.TheVariants.{Asked, Arrived, Took, Turned, Passed}
use Rattle.abc_packet.specs.declared.log.Deed.TheVariants.{Stray}
use Rattle.abc_body.specs.Meanings.{Meaning, CanSpeak}
use Rattle.abc_wait.specs.Waits.{item_beside}
use Rattle.abc_network.specs.Stored.{Gains, Loses}

-- How an agent stands to the numbers: it has not asked, it has asked, it has a number, or there is
-- none left for it.
pub data Asking : Type 0 where
  Idle : Asking
  Waiting : Asking
  Granted : ℕ → Asking
  Shut : Asking

pub record AgentState (B L : Type 0) : Type 0 where
  -- the component that it moves
  pub body : B
  -- the last number that it took or turned; 0 at first
  pub front : ℕ
  pub asking : Asking
  -- the contents of the messages that wait for their turn, by number
  pub stored : List (ℕ × Content L)
  -- how many packets it sent
  pub packets : ℕ

-- The body speaks where it can, and says nothing where it can't.
abbrev pub Speaking : {B L : Type 0} → Meaning B L → B → Option ℕ → Content L → B → Type 0
Speaking m b (Some place) (Said label) b' = m.speaks b place label b'
Speaking m b None Empty b' = (CanSpeak m b → ⊥) × (b' ≡ b)
Speaking m b None (Said label) b' = ⊥
Speaking m b (Some place) Empty b' = ⊥

-- The body hears a label, at a place or, where it discards it, at none. Where nothing was said it
-- stays.
abbrev pub Hearing : {B L : Type 0} → Meaning B L → B → Option ℕ → Content L → B → Type 0
Hearing m b place (Said label) b' = m.hears b label place b'
Hearing m b None Empty b' = b' ≡ b
Hearing m b (Some place) Empty b' = ⊥

-- The place is the one that the turn picks, for what the body says,
abbrev pub PicksToSpeak : {B L : Type 0} → Meaning B L → B → ℕ → Option ℕ → Content L → Type 0
PicksToSpeak m b turn place (Said label) = m.placed b None turn place
PicksToSpeak m b turn place Empty = Unit {0}

-- and for what it hears.
abbrev pub PicksToHear : {B L : Type 0} → Meaning B L → B → ℕ → Option ℕ → Content L → Type 0
PicksToHear m b turn place (Said label) = m.placed b (Some label) turn place
PicksToHear m b turn place Empty = Unit {0}

-- Ask: an idle agent whose body can speak sends a request.
pub record Asks {B L : Type 0} (m : Meaning B L) (way : ℕ → ℕ) (i : ℕ) (s : AgentState B L)
    (out : List (ℕ × Packet L)) (s' : AgentState B L) : Type 0 where
  pub idle : s.asking ≡ Idle
  pub can : CanSpeak m s.body
  pub sends : out ≡ (way s.packets, Request i) ∷ []
  pub after : s' ≡ record s { asking = Waiting; packets = s.packets + 1 }

-- Arrive, a reply: a number above the front under which nothing is stored is the agent's; or there
-- is none left.
abbrev pub IsGranted : {B L : Type 0} → AgentState B L → Grant → AgentState B L → Type 0
IsGranted s (Number n) s' = (s.front < n) × (item_beside s.stored n ≡ None)
    × (s' ≡ record s { asking = Granted n })
IsGranted s Closed s' = s' ≡ record s { asking = Shut }

-- Arrive, a message: it is stored under its number, which is above the front, not stored yet and
-- not the agent's own.
pub record StoresMessage {B L : Type 0} (s : AgentState B L) (n : ℕ) (content : Content L)
    (s' : AgentState B L) : Type 0 where
  pub above : s.front < n
  pub free : item_beside s.stored n ≡ None
  pub not_own : s.asking ≢ Granted n
  pub gains : Gains s.stored n content s'.stored
  pub after : s' ≡ record s { stored = s'.stored }

-- What an agent takes, by packet: a reply to its own request, and messages. No request comes to an
-- agent.
abbrev pub AgentTakes : {B L : Type 0} → ℕ → AgentState B L → Packet L → AgentState B L → Type 0
AgentTakes i s (Request agent) s' = ⊥
AgentTakes i s (Reply agent grant) s' = (agent ≡ i) × (s.asking ≡ Waiting) × IsGranted s grant s'
AgentTakes i s (Message n sender content) s' = StoresMessage s n content s'

-- Take: the message of the next number leaves the store and its content is heard, with the turn
-- `pick + front`.
pub record Takes {B L : Type 0} (m : Meaning B L) (pick : ℕ) (s : AgentState B L) (n : ℕ)
    (place : Option ℕ) (out : List (ℕ × Packet L)) (s' : AgentState B L) : Type 0 where
  pub content : Content L
  pub next : n ≡ s.front + 1
  pub waits : item_beside s.stored n ≡ Some content
  pub hears : Hearing m s.body place content s'.body
  pub picks : PicksToHear m s.body (pick + s.front) place content
  pub sends : out ≡ []
  pub loses : Loses s.stored n s'.stored
  pub after : s' ≡ record s { body = s'.body; front = n; stored = s'.stored }

-- Turn: the agent has the next number. Its body speaks, with the turn `pick + front`, or says
-- nothing where it can't, and what it said is sent; the agent may ask again.
pub record Turns {B L : Type 0} (m : Meaning B L) (pick : ℕ) (way : ℕ → ℕ) (i : ℕ)
    (s : AgentState B L) (n : ℕ) (place : Option ℕ) (content : Content L)
    (out : List (ℕ × Packet L)) (s' : AgentState B L) : Type 0 where
  pub next : n ≡ s.front + 1
  pub granted : s.asking ≡ Granted n
  pub speaks : Speaking m s.body place content s'.body
  pub picks : PicksToSpeak m s.body (pick + s.front) place content
  pub sends : out ≡ (way s.packets, Message n i content) ∷ []
  pub after : s' ≡ record s { body = s'.body; front = n; asking = Idle; packets = s.packets + 1 }

-- The table of agent i, by deed: from a state, with the packets sent, each on its link, to a state.
-- `way` is the link of its next packet, by the count of its packets. A packet that has no row is a
-- stray, and changes nothing.
abbrev pub AgentDoes : {B L : Type 0} → Meaning B L → ℕ → (ℕ → ℕ) → ℕ →
    AgentState B L → Deed L → List (ℕ × Packet L) → AgentState B L → Type 0
AgentDoes m pick way i s Asked out s' = Asks m way i s out s'
AgentDoes m pick way i s (Arrived link stamped drew) out s' =
    (drew ≡ None) × (out ≡ []) × AgentTakes i s stamped.packet s'
AgentDoes m pick way i s (Took n place) out s' = Takes m pick s n place out s'
AgentDoes m pick way i s (Turned n place content) out s' =
    Turns m pick way i s n place content out s'
AgentDoes m pick way i s (Passed n) out s' = ⊥
AgentDoes {B} {L} m pick way i s (Stray link stamped) out s' =
    ((t : AgentState B L) → AgentTakes i s stamped.packet t → ⊥) × (out ≡ []) × (s' ≡ s)
