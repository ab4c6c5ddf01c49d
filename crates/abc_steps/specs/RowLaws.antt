-- Laws of rows.
use Rattle.std.specs.Prelude.{◌≡◌, ◌⊎◌, ◌≤◌, ℕ, List, length, map}
use Rattle.abc_term.specs.Processes.{Definitions, System}
use Rattle.abc_term.specs.Systems.{Choice, Runs, IsSilent}
use Rattle.abc_steps.specs.Turns.{RunsByTurns}
use Rattle.abc_steps.specs.Alike.{AreAlike}
use Rattle.abc_steps.specs.Rows.{Row, choice_of_row, TellRun, TellTurns}

-- What rows tell is a run, with the choices that they were.
abbrev pub RowsTellRuns : Type 0
RowsTellRuns =
    (defs : Definitions) (S : System) (rs : List Row) (T : System) →
    TellRun defs S rs T → Runs defs S (map choice_of_row rs) T

-- Each run is told by some rows.
abbrev pub RunsHaveRows : Type 0
RunsHaveRows =
    (defs : Definitions) (S : System) (cs : List Choice) (T : System) →
    Runs defs S cs T → (rs : List Row) × TellRun defs S rs T × (map choice_of_row rs ≡ cs)

-- The choices determine the rows, labels and all, and the system that the run ends with.
abbrev pub RowsAreDetermined : Type 0
RowsAreDetermined =
    (defs : Definitions) (S : System) (rs qs : List Row) (T U : System) →
    TellRun defs S rs T → TellRun defs S qs U →
    map choice_of_row rs ≡ map choice_of_row qs → (rs ≡ qs) × (T ≡ U)

-- Of an interface it matters only what it lists: from a system that is alike the same rows tell a
-- run, and it ends alike.
abbrev pub AlikeRows : Type 0
AlikeRows =
    (defs : Definitions) (S S' : System) (rs : List Row) (T : System) →
    AreAlike S S' → TellRun defs S rs T → (T' : System) × AreAlike T T' × TellRun defs S' rs T'

-- Rows that tell a run by the rule of places tell a run.
abbrev pub TurnsTellRuns : Type 0
TurnsTellRuns =
    (defs : Definitions) (turn : ℕ) (S : System) (rs : List Row) (T : System) →
    TellTurns defs turn S rs T → TellRun defs S rs T

-- Where they end silent, or are as many as the limit allows, it is the run by that rule.
abbrev pub TurnRowsAreTurns : Type 0
TurnRowsAreTurns =
    (defs : Definitions) (limit turn : ℕ) (S : System) (rs : List Row) (T : System) →
    TellTurns defs turn S rs T → length rs ≤ limit → (length rs ≡ limit) ⊎ IsSilent defs T →
    RunsByTurns defs limit turn S (map choice_of_row rs) T

-- Each run by that rule is told by such rows.
abbrev pub TurnsHaveRows : Type 0
TurnsHaveRows =
    (defs : Definitions) (limit turn : ℕ) (S : System) (cs : List Choice) (T : System) →
    RunsByTurns defs limit turn S cs T →
    (rs : List Row) × TellTurns defs turn S rs T × (map choice_of_row rs ≡ cs)

-- From a system that is alike the same rows tell a run by the rule of places, and it ends alike.
abbrev pub AlikeTurnRows : Type 0
AlikeTurnRows =
    (defs : Definitions) (turn : ℕ) (S S' : System) (rs : List Row) (T : System) →
    AreAlike S S' → TellTurns defs turn S rs T →
    (T' : System) × AreAlike T T' × TellTurns defs turn S' rs T'
