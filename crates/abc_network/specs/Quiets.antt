-- When nothing can go on, and when a network is quiet.
use Rattle.std.specs.Prelude.{◌≡◌, ◌≢◌, ℕ, ◌+◌, List, [], Some, None, slice_get}
use Rattle.abc_packet.specs.declared.packets.Content.{Content}
use Rattle.abc_packet.specs.declared.stamped.Stamped.{Stamped}
use Rattle.abc_body.specs.Meanings.{Meaning, CanSpeak}
use Rattle.abc_wait.specs.Waits.{item_beside}
use Rattle.abc_network.specs.Agents.{AgentState, Idle, Granted}
use Rattle.abc_network.specs.Networks.{Net, Actor, Rules}

-- An agent can't ask, take or turn.
pub record AgentRests {B L : Type 0} (m : Meaning B L) (s : AgentState B L) : Type 0 where
  pub no_ask : s.asking ≡ Idle → CanSpeak m s.body → ⊥
  pub no_take : item_beside s.stored (s.front + 1) ≡ None
  pub no_turn : s.asking ≢ Granted (s.front + 1)

-- Nothing is on a link, and no actor can make a micro-step.
pub record IsStill {B L N : Type 0} (m : Meaning B L) (r : Rules L N) (w : Net B L N) : Type 0 where
  pub links : (l : ℕ) (q : List (Stamped L)) → slice_get w.links l ≡ Some q → q ≡ []
  pub agents : (i : ℕ) (a : Actor (AgentState B L) L) → slice_get w.agents i ≡ Some a →
      AgentRests m a.state
  pub nodes : (k : ℕ) (a : Actor N L) → slice_get w.nodes k ≡ Some a → r.node.can_pass a.state → ⊥

-- Quiet: it is still, and all stores are empty.
pub record IsQuiet {B L N : Type 0} (m : Meaning B L) (r : Rules L N) (w : Net B L N) : Type 0 where
  pub still : IsStill m r w
  pub agents : (i : ℕ) (a : Actor (AgentState B L) L) → slice_get w.agents i ≡ Some a →
      a.state.stored ≡ []
  pub nodes : (k : ℕ) (a : Actor N L) → slice_get w.nodes k ≡ Some a →
      (n sender : ℕ) (content : Content L) → r.node.holds a.state n sender content → ⊥
