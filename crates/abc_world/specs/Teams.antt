-- The agents of a network, and what one of them does.
use Rattle.std.specs.Prelude.{◌≡◌, ℕ, List, length, Some, slice_get}
use Rattle.abc_packet.specs.declared.stamped.Stamped.{Stamped}
use Rattle.abc_packet.specs.declared.log.Deed.{Deed}
use Rattle.abc_packet.specs.Outlets.{Lists}
use Rattle.abc_shape.specs.declared.layout.Layout.{Layout}
use Rattle.abc_body.specs.Meanings.{Meaning}
use Rattle.abc_network.specs.Agents.{AgentState}
use Rattle.abc_network.specs.Networks.{Actor, Swaps}
use Rattle.abc_logs.specs.MicroSteps.{Makes, stamped_with}
use Rattle.abc_agent.specs.Members.{Member, table_of, SameMember}
use Rattle.abc_world.specs.Tables.{OnTables}

-- Agents, in the order of their numbers: the plan of their network, where the turns begin, and what
-- each is as an actor.
pub record Team (B L : Type 0) : Type 0 where
  pub plan : Layout
  pub pick : ℕ
  pub actors : List (Actor (AgentState B L) L)

-- What an agent is as an actor.
abbrev pub actor_in : {B L : Type 0} → Member B L → Actor (AgentState B L) L
actor_in a = a.actor

-- They are the agents of one network.
pub record AreAgents {B L : Type 0} (p : Layout) (pick : ℕ) (agents : List (Member B L)) :
    Type 0 where
  pub many : length agents ≡ p.agents
  pub each : (i : ℕ) (a : Member B L) → slice_get agents i ≡ Some a →
      (a.plan ≡ p) × (a.number ≡ i) × (a.pick ≡ pick)

-- Agent i made a micro-step by its table with a deed of a kind, in which it took these packets. Its
-- actor changed and no other, and so did the links.
pub record AgentMade {B L : Type 0} (m : Meaning B L) (i : ℕ) (Is : Deed L → Type 0)
    (taken : List (ℕ × Stamped L)) (agents agents' : List (Member B L))
    (links links' : List (List (Stamped L))) : Type 0 where
  pub old : Member B L
  pub new : Member B L
  pub before : Lists L
  pub now : Lists L
  pub made : Makes (table_of m old) taken old.actor new.actor before now
  pub is : Is made.entry.deed
  pub same : SameMember old new
  pub at : Swaps i old new agents agents'
  pub tables : OnTables taken (stamped_with made.entry.clock made.sends) links links'
