-- How far a network is.
use Rattle.std.specs.Prelude.{◌≡◌, ℕ, ◌≤◌, List, Some, slice_get}
use Rattle.abc_body.specs.Meanings.{Meaning}
use Rattle.abc_network.specs.Agents.{AgentState}
use Rattle.abc_network.specs.Networks.{Actor}
use Rattle.abc_network.specs.Quiets.{AgentRests}
use Rattle.abc_network.specs.Nodes.{NodeMachine}
use Rattle.abc_world.specs.Runnings.{Running}

-- The least of all agents' fronts: one agent has it, and none has a lesser one.
pub record IsLeastFront {B L N : Type 0} (n : Running B L N) (front : ℕ) : Type 0 where
  pub one : (i : ℕ) × (a : Actor (AgentState B L) L)
      × (slice_get n.net.agents i ≡ Some a) × (a.state.front ≡ front)
  pub least : (i : ℕ) (a : Actor (AgentState B L) L) → slice_get n.net.agents i ≡ Some a →
      front ≤ a.state.front

-- No agent can ask, take or turn,
abbrev pub AllAgentsRest : {B L : Type 0} → Meaning B L → List (Actor (AgentState B L) L) → Type 0
AllAgentsRest {B} {L} m agents =
    (i : ℕ) (a : Actor (AgentState B L) L) → slice_get agents i ≡ Some a → AgentRests m a.state

-- and no node can pass a message on.
abbrev pub AllNodesRest : {L N : Type 0} → NodeMachine L N → List (Actor N L) → Type 0
AllNodesRest {L} {N} machine nodes =
    (k : ℕ) (a : Actor N L) → slice_get nodes k ≡ Some a → machine.can_pass a.state → ⊥
