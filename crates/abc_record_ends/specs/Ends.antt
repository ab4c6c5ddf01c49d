-- Why a legal record ends: the limit is reached, or no body can speak.
use Rattle.std.specs.Prelude.{◌≡◌, ◌⊎◌, ℕ, List, Some, slice_get}
use Rattle.abc_packet.specs.declared.log.Entry.{Entry}
use Rattle.abc_shape.specs.declared.shape.Shape.TheVariants.{Cluster, Ring, Tree}
use Rattle.abc_shape.specs.Plans.{IsLayout, layout_of}
use Rattle.abc_body.specs.Meanings.{Meaning, CanSpeak}
use Rattle.abc_network.specs.Agents.{AgentState}
use Rattle.abc_network.specs.Networks.{Net, Actor, Rules}
use Rattle.abc_network.specs.Shapes.{cluster_rules, ring_rules, tree_rules}
use Rattle.abc_schedule.specs.Legal.{IsLegal}

-- No agent's body can speak.
abbrev pub NobodyCanSpeak : {B L N : Type 0} → Meaning B L → Net B L N → Type 0
NobodyCanSpeak {B} {L} m w =
    (i : ℕ) (a : Actor (AgentState B L) L) → slice_get w.agents i ≡ Some a →
    CanSpeak m a.state.body → ⊥

-- A legal record ends where the numbers drawn are all up to the limit, or where nobody can speak.
abbrev pub EndsRight : {B L N : Type 0} → Meaning B L → Rules L N → Type 0
EndsRight {B} {L} m r =
    (bodies : List B) (logs : List (List (Entry L))) (l : IsLegal m r bodies logs) →
    (l.count ≡ r.limit) ⊎ NobodyCanSpeak m l.last

-- In every shape.
pub record RecordsEndRight {B L : Type 0} (m : Meaning B L) : Type 0 where
  pub clusters : (agents nodes limit pick : ℕ) → IsLayout (layout_of Cluster agents nodes) →
      EndsRight m (cluster_rules agents nodes limit pick)
  pub rings : (agents nodes limit pick : ℕ) → IsLayout (layout_of Ring agents nodes) →
      EndsRight m (ring_rules agents nodes limit pick)
  pub trees : (agents nodes limit pick : ℕ) → IsLayout (layout_of Tree agents nodes) →
      EndsRight m (tree_rules agents nodes limit pick)
