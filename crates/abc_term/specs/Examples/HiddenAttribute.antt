-- The interface hides the attribute that is asked for
-- comp a { show; run (1) @ (x = 1) . 0; }
-- comp b { x = 1; show; run ? (tt) ($v) . [got := $v] 0; }
use Rattle.std.specs.Prelude.{[], ◌∷◌}
use Rattle.abc_pred.specs.declared.names.Name.{Name}
use Rattle.abc_pred.specs.Terms.{Var, True}
use Rattle.abc_term.specs.Processes.{Nil, Output, Input, Component}
use Rattle.abc_term.specs.Systems.{Multicasts}
use Rattle.abc_term.specs.Examples.Writing.{name, number, say, is, set, component, label}

abbrev pub x : Name
x = name 0

abbrev pub got : Name
got = name 1

abbrev pub v : Name
v = name 2

abbrev pub b : Component
b = component ((x, number 1) ∷ []) [] (Input True (v ∷ []) (set got (Var v) ∷ []) Nil)

-- The output is a step, and b discards it.
abbrev pub HiddenIsDiscarded : Type 0
HiddenIsDiscarded =
    Multicasts [] (component [] [] (Output (say (number 1)) (is x (number 1)) [] Nil) ∷ b ∷ []) 0 0 []
    (label [] (is x (number 1)) (number 1 ∷ [])) (component [] [] Nil ∷ b ∷ [])
