-- The label has the attributes before the update
-- comp a { s = 0; show s; run (7) @ (tt) . [s := 1] 0; }
-- comp b { show; run ? (s = 0) ($v) . [got := $v] 0; }
-- comp c { show; run ? (s = 1) ($v) . [got := $v] 0; }
use Rattle.std.specs.Prelude.{◌≢◌, ℕ, [], ◌∷◌}
use Rattle.abc_pred.specs.declared.names.Name.{Name}
use Rattle.abc_pred.specs.Terms.{Literal, Var, True}
use Rattle.abc_term.specs.Processes.{Nil, Output, Input, Component, System}
use Rattle.abc_term.specs.Speaking.{Label, Speaks}
use Rattle.abc_term.specs.Systems.{Multicasts, Step}
use Rattle.abc_term.specs.Examples.Writing.{name, number, say, is, set, component, label, choice}

abbrev pub s : Name
s = name 0

abbrev pub got : Name
got = name 1

abbrev pub v : Name
v = name 2

abbrev pub a : Component
a = component ((s, number 0) ∷ []) (s ∷ []) (Output (say (number 7)) True (set s (Literal (number 1)) ∷ []) Nil)

abbrev pub asks : ℕ → Component
asks n = component [] [] (Input (is s (number n)) (v ∷ []) (set got (Var v) ∷ []) Nil)

abbrev pub before : System
before = a ∷ asks 0 ∷ asks 1 ∷ []

-- The one that asks for s = 0 receives, and a has s = 1 after the step.
abbrev pub OldIsSeen : Type 0
OldIsSeen =
    Multicasts [] before 0 0 ((1, 0) ∷ []) (label ((s, number 0) ∷ []) True (number 7 ∷ []))
    (component ((s, number 1) ∷ []) (s ∷ []) Nil ∷ component ((got, number 7) ∷ []) [] Nil ∷ asks 1 ∷ [])

-- No label of a has the new value.
abbrev pub NewIsNotShown : Type 0
NewIsNotShown = (place : ℕ) (l : Label) (a' : Component) → Speaks [] a place l a' → l.shown ≢ ((s, number 1) ∷ [])

-- The one that asks for s = 1 receives in no step.
abbrev pub NewIsNotSeen : Type 0
NewIsNotSeen = (place other : ℕ) (S : System) → ¬ Step [] before (choice 0 place ((2, other) ∷ [])) S
