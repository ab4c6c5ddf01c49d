-- A greeting
-- comp alice { role = "a"; show role; run ("hi") @ (role = "b") . 0; }
-- comp bob { role = "b"; show role; run ? (role = "a") ($x) . [got := $x] 0; }
use Rattle.std.specs.Prelude.{[], ◌∷◌, codes}
use Rattle.abc_pred.specs.declared.names.Name.{Name}
use Rattle.abc_pred.specs.Terms.{Var}
use Rattle.abc_term.specs.Processes.{Process, Nil, Output, Input, Component, System}
use Rattle.abc_term.specs.Systems.{Multicasts, Step, IsSilent}
use Rattle.abc_term.specs.Examples.Writing.{name, text, say, is, set, component, label, choice}

abbrev pub role : Name
role = name 0

abbrev pub got : Name
got = name 1

abbrev pub x : Name
x = name 2

abbrev pub alice : Process → Component
alice P = component ((role, text (codes "a")) ∷ []) (role ∷ []) P

abbrev pub bob : Component
bob =
    component ((role, text (codes "b")) ∷ []) (role ∷ [])
    (Input (is role (text (codes "a"))) (x ∷ []) (set got (Var x) ∷ []) Nil)

abbrev pub before : System
before = alice (Output (say (text (codes "hi"))) (is role (text (codes "b"))) [] Nil) ∷ bob ∷ []

abbrev pub after : System
after = alice Nil ∷ component ((role, text (codes "b")) ∷ (got, text (codes "hi")) ∷ []) (role ∷ []) Nil ∷ []

-- Alice says ("hi") @ (role = "b"), and bob hears it.
abbrev pub Greets : Type 0
Greets =
    Multicasts [] before 0 0 ((1, 0) ∷ [])
    (label ((role, text (codes "a")) ∷ []) (is role (text (codes "b"))) (text (codes "hi") ∷ []))
    after

-- Then nobody can speak.
abbrev pub EndsSilent : Type 0
EndsSilent = IsSilent [] after

-- Bob can't discard what his input takes.
abbrev pub CannotBeDiscarded : Type 0
CannotBeDiscarded = (S : System) → ¬ Step [] before (choice 0 0 []) S
