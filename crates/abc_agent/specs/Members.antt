-- An agent as contracts see it, and its micro-steps.
use Rattle.std.specs.Prelude.{◌≡◌, ℕ, List, [], ◌∷◌}
use Rattle.abc_packet.specs.declared.stamped.Stamped.{Stamped}
use Rattle.abc_packet.specs.declared.log.Deed.{Deed}
use Rattle.abc_packet.specs.declared.log.Deed.TheVariants.{Asked, Arrived, Took, Turned, Passed}
use Rattle.abc_packet.specs.declared.log.Deed.TheVariants.{Stray}
use Rattle.abc_packet.specs.Outlets.{Lists}
use Rattle.abc_shape.specs.declared.layout.Layout.{Layout}
use Rattle.abc_body.specs.Meanings.{Meaning}
use Rattle.abc_network.specs.Agents.{AgentState, AgentDoes}
use Rattle.abc_network.specs.Networks.{Actor}
use Rattle.abc_logs.specs.MicroSteps.{Table, Makes}
use Rattle.abc_agent.specs.Ways.{way_of}

-- An agent of a network: the plan, its number there, where the turns begin, and what it is as an
-- actor.
pub record Member (B L : Type 0) : Type 0 where
  pub plan : Layout
  pub number : ℕ
  pub pick : ℕ
  pub actor : Actor (AgentState B L) L

-- It is the same agent of the same network.
pub record SameMember {B L : Type 0} (old new : Member B L) : Type 0 where
  pub plan : new.plan ≡ old.plan
  pub number : new.number ≡ old.number
  pub pick : new.pick ≡ old.pick

-- The table of this agent.
abbrev pub table_of : {B L : Type 0} → Meaning B L → Member B L → Table (AgentState B L) L
table_of m a = AgentDoes m a.pick (way_of a.plan a.number) a.number

-- It makes one micro-step, in which it takes these packets from links, and the lists of links gain
-- what it sends.
abbrev pub Made : {B L : Type 0} → Meaning B L → List (ℕ × Stamped L) →
    Member B L → Member B L → Lists L → Lists L → Type 0
Made m taken old new before after = Makes (table_of m old) taken old.actor new.actor before after

-- Deeds of asking,
abbrev pub IsAsk : {L : Type 0} → Deed L → Type 0
IsAsk Asked = Unit {0}
IsAsk (Arrived link stamped drew) = ⊥
IsAsk (Took n place) = ⊥
IsAsk (Turned n place content) = ⊥
IsAsk (Passed n) = ⊥
IsAsk (Stray link stamped) = ⊥

-- of taking the message of a number,
abbrev pub IsTake : {L : Type 0} → Deed L → Type 0
IsTake Asked = ⊥
IsTake (Arrived link stamped drew) = ⊥
IsTake (Took n place) = Unit {0}
IsTake (Turned n place content) = ⊥
IsTake (Passed n) = ⊥
IsTake (Stray link stamped) = ⊥

-- of having the turn at one,
abbrev pub IsTurn : {L : Type 0} → Deed L → Type 0
IsTurn Asked = ⊥
IsTurn (Arrived link stamped drew) = ⊥
IsTurn (Took n place) = ⊥
IsTurn (Turned n place content) = Unit {0}
IsTurn (Passed n) = ⊥
IsTurn (Stray link stamped) = ⊥

-- and of either.
abbrev pub IsTakeOrTurn : {L : Type 0} → Deed L → Type 0
IsTakeOrTurn Asked = ⊥
IsTakeOrTurn (Arrived link stamped drew) = ⊥
IsTakeOrTurn (Took n place) = Unit {0}
IsTakeOrTurn (Turned n place content) = Unit {0}
IsTakeOrTurn (Passed n) = ⊥
IsTakeOrTurn (Stray link stamped) = ⊥

-- It asks: one micro-step, in which it takes nothing from links.
abbrev pub MadeAsk : {B L : Type 0} → Meaning B L → Member B L → Member B L →
    Lists L → Lists L → Type 0
MadeAsk {B} {L} m old new before after =
    (step : Made m [] old new before after) × IsAsk step.entry.deed

-- It takes the message of a number, likewise,
abbrev pub MadeTake : {B L : Type 0} → Meaning B L → Member B L → Member B L →
    Lists L → Lists L → Type 0
MadeTake {B} {L} m old new before after =
    (step : Made m [] old new before after) × IsTake step.entry.deed

-- has its turn at one,
abbrev pub MadeTurn : {B L : Type 0} → Meaning B L → Member B L → Member B L →
    Lists L → Lists L → Type 0
MadeTurn {B} {L} m old new before after =
    (step : Made m [] old new before after) × IsTurn step.entry.deed

-- or does one of the two.
abbrev pub MadeTakeOrTurn : {B L : Type 0} → Meaning B L → Member B L → Member B L →
    Lists L → Lists L → Type 0
MadeTakeOrTurn {B} {L} m old new before after =
    (step : Made m [] old new before after) × IsTakeOrTurn step.entry.deed

-- A packet arrives, and nothing is sent, whatever is on the links.
abbrev pub MadeArrival : {B L : Type 0} → Meaning B L → ℕ → Stamped L → Member B L → Member B L →
    Type 0
MadeArrival {B} {L} m link stamped old new =
    (lists : Lists L) → Made m ((link, stamped) ∷ []) old new lists lists
