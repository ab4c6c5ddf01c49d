-- A choice with two enabled moves on either side of a message
-- comp a { show; run (1) @ (tt) . (3) @ (tt) . 0 + (2) @ (tt) . 0; }
-- comp b { show; run ? (tt) ($v) . [l := $v] 0 + ? (tt) ($v) . [r := $v] 0; }
use Rattle.std.specs.Prelude.{ℕ, [], ◌∷◌}
use Rattle.abc_pred.specs.declared.names.Name.{Name}
use Rattle.abc_pred.specs.Terms.{Var, True}
use Rattle.abc_term.specs.Processes.{Process, Nil, Output, Input, Choice, System}
use Rattle.abc_term.specs.Systems.{Multicasts}
use Rattle.abc_term.specs.Examples.Writing.{name, number, say, set, component, label}

abbrev pub l : Name
l = name 0

abbrev pub r : Name
r = name 1

abbrev pub v : Name
v = name 2

abbrev pub tells : ℕ → Process → Process
tells n P = Output (say (number n)) True [] P

abbrev pub hears : Name → Process
hears a = Input True (v ∷ []) (set a (Var v) ∷ []) Nil

abbrev pub before : System
before = component [] [] (Choice (tells 1 (tells 3 Nil)) (tells 2 Nil)) ∷ component [] [] (Choice (hears l) (hears r)) ∷ []

-- The left side of a choice has place 0 and the right side place 1, for outputs and for inputs. The other side is gone.
abbrev pub LeftTellsRight : Type 0
LeftTellsRight =
    Multicasts [] before 0 0 ((1, 1) ∷ []) (label [] True (number 1 ∷ []))
    (component [] [] (tells 3 Nil) ∷ component ((r, number 1) ∷ []) [] Nil ∷ [])

abbrev pub RightTellsLeft : Type 0
RightTellsLeft =
    Multicasts [] before 0 1 ((1, 0) ∷ []) (label [] True (number 2 ∷ []))
    (component [] [] Nil ∷ component ((l, number 2) ∷ []) [] Nil ∷ [])
