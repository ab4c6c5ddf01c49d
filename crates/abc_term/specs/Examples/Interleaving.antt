-- Two branches that are both ready
-- comp a { show; run (4) @ (tt) . 0; }
-- comp b { show; run ? (tt) ($v) . [l := $v] 0 | ? (tt) ($v) . [r := $v] 0; }
-- comp c { show; run (4) @ (tt) . 0 | (5) @ (tt) . 0; }
use Rattle.std.specs.Prelude.{ℕ, List, [], ◌∷◌}
use Rattle.abc_pred.specs.declared.names.Name.{Name}
use Rattle.abc_pred.specs.Maps.{Entries}
use Rattle.abc_pred.specs.Terms.{Var, True}
use Rattle.abc_term.specs.Processes.{Process, Nil, Output, Input, Par, System}
use Rattle.abc_term.specs.Systems.{Multicasts, Step}
use Rattle.abc_term.specs.Examples.Writing.{name, number, say, set, component, label, choice}

abbrev pub left : Name
left = name 0

abbrev pub right : Name
right = name 1

abbrev pub v : Name
v = name 2

abbrev pub branch : Name → Process
branch a = Input True (v ∷ []) (set a (Var v) ∷ []) Nil

abbrev pub before : System
before = component [] [] (Output (say (number 4)) True [] Nil) ∷ component [] [] (Par (branch left) (branch right)) ∷ []

abbrev pub after : Entries → Process → System
after env P = component [] [] Nil ∷ component env [] P ∷ []

-- At place 0 the left branch moves, and the right one stays.
abbrev pub LeftHears : Type 0
LeftHears =
    Multicasts [] before 0 0 ((1, 0) ∷ []) (label [] True (number 4 ∷ []))
    (after ((left, number 4) ∷ []) (Par Nil (branch right)))

-- At place 1 the right branch moves, and the left one stays.
abbrev pub RightHears : Type 0
RightHears =
    Multicasts [] before 0 0 ((1, 1) ∷ []) (label [] True (number 4 ∷ []))
    (after ((right, number 4) ∷ []) (Par (branch left) Nil))

-- In no step do both move.
abbrev pub NotBothHear : Type 0
NotBothHear =
    (place : ℕ) (heard : List (ℕ × ℕ)) (env : Entries) → ¬ Step [] before (choice 0 place heard) (after env (Par Nil Nil))

abbrev pub tells : ℕ → Process
tells n = Output (say (number n)) True [] Nil

-- Either of two branches speaks too, and the other one stays on its side.
abbrev pub LeftSpeaks : Type 0
LeftSpeaks =
    Multicasts [] (component [] [] (Par (tells 4) (tells 5)) ∷ []) 0 0 [] (label [] True (number 4 ∷ []))
    (component [] [] (Par Nil (tells 5)) ∷ [])

abbrev pub RightSpeaks : Type 0
RightSpeaks =
    Multicasts [] (component [] [] (Par (tells 4) (tells 5)) ∷ []) 0 1 [] (label [] True (number 5 ∷ []))
    (component [] [] (Par (tells 4) Nil) ∷ [])
