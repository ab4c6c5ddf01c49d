-- Runs told by rows. A row says what happened in one step: who spoke with which label, and who
-- heard.
use Rattle.std.specs.Prelude.{◌≡◌, ℕ, ◌+◌, ◌<◌, List, [], ◌∷◌, length, Option, Some, None}
use Rattle.abc_term.specs.Processes.{Definitions, System}
use Rattle.abc_term.specs.Speaking.{Label}
use Rattle.abc_term.specs.Systems.{Choice, Multicasts}
use Rattle.abc_steps.specs.Turns.{IsTurn}

-- What a step was: who spoke, at which place and with which label (none where the step is empty),
-- and who heard at which places.
pub record Row : Type 0 where
  pub sender : ℕ
  pub spoke : Option (ℕ × Label)
  pub heard : List (ℕ × ℕ)

-- The place of what was said, or none where nothing was.
abbrev pub place_said : Option (ℕ × Label) → Option ℕ
place_said None = None
place_said (Some s) = Some s.0

-- The choice that a row was.
abbrev pub choice_of_row : Row → Choice
choice_of_row r = record { sender = r.sender; place = place_said r.spoke; heard = r.heard }

-- The step from S to T is what these say: a multicast with this label, or the empty step.
abbrev pub IsToldBy : Definitions → System → ℕ → Option (ℕ × Label) → List (ℕ × ℕ) → System → Type 0
IsToldBy defs S sender (Some s) heard T = Multicasts defs S sender s.0 heard s.1 T
IsToldBy defs S sender None heard T = (sender < length S) × (heard ≡ []) × (T ≡ S)

-- The row tells the step from S to T.
abbrev pub TellsStep : Definitions → System → Row → System → Type 0
TellsStep defs S r T = IsToldBy defs S r.sender r.spoke r.heard T

-- The rows tell a run from S to T.
abbrev pub TellRun : Definitions → System → List Row → System → Type 0
TellRun defs S [] T = T ≡ S
TellRun defs S (r ∷ rs) T = (U : System) × TellsStep defs S r U × TellRun defs U rs T

-- The row is the step by the rule of places at this turn.
abbrev pub TellsTurn : Definitions → System → ℕ → Row → System → Type 0
TellsTurn defs S turn r T =
    (s : ℕ × Label) × (r.spoke ≡ Some s) × TellsStep defs S r T
    × IsTurn defs S turn (choice_of_row r) s.1

-- The rows tell a run from S to T by the rule of places, the first at this turn and each one at the
-- next.
abbrev pub TellTurns : Definitions → ℕ → System → List Row → System → Type 0
TellTurns defs turn S [] T = T ≡ S
TellTurns defs turn S (r ∷ rs) T =
    (U : System) × TellsTurn defs S turn r U × TellTurns defs (turn + 1) U rs T
