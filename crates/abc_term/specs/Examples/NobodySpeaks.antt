-- An empty step, and steps of nobody
-- comp a { show; run (1) @ (tt) . 0; }
-- comp b { show; run ? (tt) ($v) . 0; }
use Rattle.std.specs.Prelude.{ℕ, List, [], ◌∷◌, None}
use Rattle.abc_pred.specs.Terms.{True}
use Rattle.abc_term.specs.Processes.{Nil, Output, Input, System}
use Rattle.abc_term.specs.Systems.{Choice, Step}
use Rattle.abc_term.specs.Examples.Writing.{name, number, say, component, choice}

abbrev pub before : System
before = component [] [] (Output (say (number 1)) True [] Nil) ∷ component [] [] (Input True (name 0 ∷ []) [] Nil) ∷ []

-- a step that its sender passes by
abbrev pub passes : ℕ → List (ℕ × ℕ) → Choice
passes sender heard = record { sender = sender; place = None; heard = heard }

-- Either component may pass, whether it could speak or not, and the system stays.
abbrev pub PassingStays : Type 0
PassingStays = Step [] before (passes 0 []) before × Step [] before (passes 1 []) before

-- A component that isn't there neither passes nor speaks.
abbrev pub NobodyPasses : Type 0
NobodyPasses = (S : System) → ¬ Step [] before (passes 2 []) S

abbrev pub NobodySpeaks : Type 0
NobodySpeaks = (place : ℕ) (S : System) → ¬ Step [] before (choice 2 place []) S

-- Nobody hears where nobody speaks.
abbrev pub NothingIsHeard : Type 0
NothingIsHeard = (S : System) → ¬ Step [] before (passes 0 ((1, 0) ∷ [])) S
