-- `this` in the sender's predicate
-- comp a { g = 2; show g; run (5) @ (this.g = g) . 0; }
-- comp b { g = 2; show g; run ? (tt) ($v) . 0; }
-- comp c { g = 3; show g; run ? (tt) ($v) . 0; }
-- comp d { g = 2; show g; run ? (tt) ($v) . 0; }
use Rattle.std.specs.Prelude.{ℕ, [], ◌∷◌}
use Rattle.abc_pred.specs.declared.names.Name.{Name}
use Rattle.abc_pred.specs.Terms.{Literal, Attr, This, True, Same}
use Rattle.abc_term.specs.Processes.{Process, Nil, Output, Input, Component}
use Rattle.abc_term.specs.Systems.{Multicasts}
use Rattle.abc_term.specs.Examples.Writing.{name, number, say, component, label}

abbrev pub g : Name
g = name 0

abbrev pub v : Name
v = name 1

abbrev pub at : ℕ → Process → Component
at n P = component ((g, number n) ∷ []) (g ∷ []) P

abbrev pub hears : Process
hears = Input True (v ∷ []) [] Nil

-- The predicate that is sent is 2 = g, which b and d satisfy.
abbrev pub ThisIsClosed : Type 0
ThisIsClosed =
    Multicasts [] (at 2 (Output (say (number 5)) (Same (This g) (Attr g)) [] Nil) ∷ at 2 hears ∷ at 3 hears ∷ at 2 hears ∷ []) 0 0
    ((1, 0) ∷ (3, 0) ∷ [])
    (label ((g, number 2) ∷ []) (Same (Literal (number 2)) (Attr g)) (number 5 ∷ []))
    (at 2 Nil ∷ at 2 Nil ∷ at 3 hears ∷ at 2 Nil ∷ [])
