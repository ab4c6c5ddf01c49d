-- A multicast made ready.
use Rattle.std.specs.Prelude.{◌≡◌, ℕ, List, Some, map}
use Rattle.abc_term.specs.Processes.{Definitions, System}
use Rattle.abc_term.specs.Systems.{StepAt}
use Rattle.abc_packet.specs.declared.choice.Choice.{Choice}
use Rattle.abc_moves.specs.Labels.{label_of}
use Rattle.abc_steps.specs.Hearers.{CanHear}
use Rattle.abc_steps.specs.Turns.{IsTurn}
use Rattle.abc_system.specs.declared.member.Member.{Member}
use Rattle.abc_system.specs.declared.cast.Cast.{Cast}
use Rattle.abc_system.specs.Members.{now_in}
use Rattle.abc_system.specs.Saying.{IsSaidBy}

-- The rules have no step in which the sender of the choice speaks at this place and its hearers hear.
abbrev pub IsNoCast : Definitions → System → Choice → ℕ → Type 0
IsNoCast defs S c place = (T : System) → ¬ StepAt defs S c.sender (Some place) c.heard T

-- What is said is the sender's, and all others can hear it so.
pub record IsCast (defs : Definitions) (members : List Member) (c : Cast) : Type 0 where
  pub said : IsSaidBy defs members c.sender c.said.place c.said
  pub can : CanHear defs c.sender (label_of c.said.label) 0 (map now_in members) c.heard

-- It is the one of the choice, at this place.
abbrev pub IsCastBy : Definitions → List Member → Choice → ℕ → Cast → Type 0
IsCastBy defs members choice place c =
    IsCast defs members c × (c.sender ≡ choice.sender) × (c.said.place ≡ place) × (c.heard ≡ choice.heard)

-- It is the one by the rule of places at the turn.
abbrev pub IsCastAt : Definitions → List Member → ℕ → Cast → Type 0
IsCastAt defs members turn c =
    IsCast defs members c
    × IsTurn defs (map now_in members) turn (record { sender = c.sender; place = Some c.said.place; heard = c.heard }) (label_of c.said.label)
