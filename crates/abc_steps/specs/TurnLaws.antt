-- Laws of the rule of places, and of systems that are alike.
use Rattle.std.specs.Prelude.{◌≡◌, ◌⊎◌, ◌≤◌, ℕ, List, length}
use Rattle.abc_term.specs.Processes.{Definitions, System}
use Rattle.abc_term.specs.Speaking.{Label}
use Rattle.abc_term.specs.Systems.{Choice, Multicasts, Runs, IsSilent}
use Rattle.abc_steps.specs.Turns.{RunsByTurns}
use Rattle.abc_steps.specs.Alike.{AreAlike}

-- A run by the rule is a run.
abbrev pub TurnsAreRuns : Type 0
TurnsAreRuns =
    (defs : Definitions) (limit turn : ℕ) (S : System) (cs : List Choice) (T : System) →
    RunsByTurns defs limit turn S cs T → Runs defs S cs T

-- It has at most so many steps, and fewer only where it ends silent.
abbrev pub TurnsEnd : Type 0
TurnsEnd =
    (defs : Definitions) (limit turn : ℕ) (S : System) (cs : List Choice) (T : System) →
    RunsByTurns defs limit turn S cs T → (length cs ≤ limit) × ((length cs ≡ limit) ⊎ IsSilent defs T)

-- There is one such run for a system, a limit and a turn,
abbrev pub TurnsExist : Type 0
TurnsExist =
    (defs : Definitions) (limit turn : ℕ) (S : System) →
    (cs : List Choice) × (T : System) × RunsByTurns defs limit turn S cs T

-- and no other.
abbrev pub TurnsAreDetermined : Type 0
TurnsAreDetermined =
    (defs : Definitions) (limit turn : ℕ) (S : System) (cs ds : List Choice) (T U : System) →
    RunsByTurns defs limit turn S cs T → RunsByTurns defs limit turn S ds U → (cs ≡ ds) × (T ≡ U)

-- Of an interface it matters only what it lists: alike systems have the same multicasts, and stay alike.
abbrev pub AlikeMulticasts : Type 0
AlikeMulticasts =
    (defs : Definitions) (S S' : System) (sender place : ℕ) (heard : List (ℕ × ℕ)) (l : Label) (T : System) →
    AreAlike S S' → Multicasts defs S sender place heard l T → (T' : System) × AreAlike T T' × Multicasts defs S' sender place heard l T'

-- So they have the same runs by the rule.
abbrev pub AlikeTurns : Type 0
AlikeTurns =
    (defs : Definitions) (limit turn : ℕ) (S S' : System) (cs : List Choice) (T : System) →
    AreAlike S S' → RunsByTurns defs limit turn S cs T → (T' : System) × AreAlike T T' × RunsByTurns defs limit turn S' cs T'
