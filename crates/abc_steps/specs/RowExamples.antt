-- Worked rows.
use Rattle.std.specs.Prelude.{ℕ, List, [], ◌∷◌, Some, None}
use Rattle.abc_pred.specs.Terms.{True}
use Rattle.abc_term.specs.Processes.{Nil, Par, System}
use Rattle.abc_term.specs.Speaking.{Label}
use Rattle.abc_term.specs.Examples.Writing.{number, label}
use Rattle.abc_term.specs.Examples.Colouring as colouring
use Rattle.abc_term.specs.Examples.Interleaving as branches
use Rattle.abc_steps.specs.Rows.{Row, TellRun, TellTurns}

-- The sender says this at its place, and these hear.
abbrev pub said : ℕ → ℕ → Label → List (ℕ × ℕ) → Row
said sender place l heard = record { sender = sender; spoke = Some (place, l); heard = heard }

-- The sender passes, and nobody hears.
abbrev pub passed : ℕ → Row
passed sender = record { sender = sender; spoke = None; heard = [] }

-- The first component tells this number, and the second one takes it by its input at place 1.
abbrev pub number_told : ℕ → Row
number_told n = said 0 0 (label [] True (number n ∷ [])) ((1, 1) ∷ [])

-- The second component passes. Then the first one tells 4, and the second one takes it.
abbrev pub PassedThenSaid : Type 0
PassedThenSaid =
    TellRun [] branches.before (passed 1 ∷ number_told 4 ∷ [])
    (branches.after ((branches.right, number 4) ∷ []) (Par (branches.branch branches.left) Nil))

-- It isn't told with another label.
abbrev pub NotSaid : Type 0
NotSaid = (S : System) → ¬ TellRun [] branches.before (passed 1 ∷ number_told 5 ∷ []) S

-- Two turns of the colouring by the rule of places.
abbrev pub TwoTurnRows : Type 0
TwoTurnRows =
    TellTurns colouring.defs 0 colouring.none_coloured
    (said 0 0 (colouring.told 0 0 (1 ∷ 3 ∷ 5 ∷ [])) ((1, 0) ∷ (3, 0) ∷ (5, 0) ∷ [])
    ∷ said 2 0 (colouring.told 2 0 (1 ∷ 3 ∷ [])) ((1, 0) ∷ (3, 0) ∷ [])
    ∷ []) colouring.two_coloured
