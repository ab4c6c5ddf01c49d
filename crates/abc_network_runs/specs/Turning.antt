-- When an agent can have its turn: its own state tells.
use Rattle.std.specs.Prelude.{◌≡◌, ◌↔◌, ◌⊎◌, ℕ, ◌+◌, Option, Some, None, slice_get}
use Rattle.abc_packet.specs.declared.packets.Content.{Content}
use Rattle.abc_packet.specs.declared.log.Deed.TheVariants.{Turned}
use Rattle.abc_body.specs.Meanings.{Meaning, CanSpeak}
use Rattle.abc_moves.specs.declared.label.Label.{Label}
use Rattle.abc_live_body.specs.Running.{RunningComponent}
use Rattle.abc_live_body.specs.AbcMeaning.{abc}
use Rattle.abc_network.specs.Agents.{AgentState, Granted}
use Rattle.abc_network.specs.Networks.{Net, Actor, Rules, AgentDid, NetStep}
use Rattle.abc_network.specs.Shapes.{cluster_rules, ring_rules, tree_rules}

-- The body speaks, at the place that the turn picks.
abbrev pub SpeaksAsPicked : {B L : Type 0} → Meaning B L → B → ℕ → Type 0
SpeaksAsPicked {B} {L} m b turn =
    (place : ℕ) × (label : L) × (b' : B) × m.speaks b place label b'
    × m.placed b None turn (Some place)

-- The agent has the next number, and its body speaks as the turn picks, or can't speak.
pub record MayTurn {B L : Type 0} (m : Meaning B L) (pick : ℕ) (s : AgentState B L) : Type 0 where
  pub granted : s.asking ≡ Granted (s.front + 1)
  pub body : SpeaksAsPicked m s.body (pick + s.front) ⊎ (CanSpeak m s.body → ⊥)

-- There is an event in which agent i turns a number.
abbrev pub CanTurn : {B L N : Type 0} → Meaning B L → Rules L N → Net B L N → ℕ → Type 0
CanTurn {B} {L} {N} m r w i =
    (clock : ℕ) × (n : ℕ) × (place : Option ℕ) × (content : Content L) × (w' : Net B L N)
    × NetStep m r w (AgentDid i (record { clock = clock; deed = Turned n place content })) w'

-- In every state of the network the agent's own state tells whether there is one, whatever the
-- other agents, the nodes and the links hold.
abbrev pub NoTurnWaits : {B L N : Type 0} → Meaning B L → Rules L N → Type 0
NoTurnWaits {B} {L} {N} m r =
    (w : Net B L N) (i : ℕ) (a : Actor (AgentState B L) L) → slice_get w.agents i ≡ Some a →
    CanTurn m r w i ↔ MayTurn m r.pick a.state

-- So it is in each shape.
pub record TurnsWaitForNobody {B L : Type 0} (m : Meaning B L) : Type 0 where
  pub cluster : (agents nodes limit pick : ℕ) →
      NoTurnWaits m (cluster_rules agents nodes limit pick)
  pub ring : (agents nodes limit pick : ℕ) → NoTurnWaits m (ring_rules agents nodes limit pick)
  pub tree : (agents nodes limit pick : ℕ) → NoTurnWaits m (tree_rules agents nodes limit pick)

-- With components as bodies nothing is asked of the body either: an agent can turn a number just
-- where it has the next.
abbrev pub TurnsWhereGranted : {N : Type 0} → Rules Label N → Type 0
TurnsWhereGranted {N} r =
    (w : Net RunningComponent Label N) (i : ℕ)
    (a : Actor (AgentState RunningComponent Label) Label) → slice_get w.agents i ≡ Some a →
    CanTurn abc r w i ↔ (a.state.asking ≡ Granted (a.state.front + 1))

pub record ComponentsTurn : Type 0 where
  pub cluster : (agents nodes limit pick : ℕ) →
      TurnsWhereGranted (cluster_rules agents nodes limit pick)
  pub ring : (agents nodes limit pick : ℕ) → TurnsWhereGranted (ring_rules agents nodes limit pick)
  pub tree : (agents nodes limit pick : ℕ) → TurnsWhereGranted (tree_rules agents nodes limit pick)
