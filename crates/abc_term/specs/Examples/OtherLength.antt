-- A message of another length
-- comp a { show; run (1, 2) @ (tt) . 0; }
-- comp b { show; run ? (tt) ($x) . [first := $x] 0; }
-- comp c { show; run ? (tt) ($x, $y) . [first := $x] [second := $y] 0; }
-- comp d { show; run ? (tt) ($x, $y, $z) . [first := $x] 0; }
use Rattle.std.specs.Prelude.{List, [], ◌∷◌}
use Rattle.abc_pred.specs.declared.names.Name.{Name}
use Rattle.abc_pred.specs.Terms.{Literal, Var, Plain, Expr, True}
use Rattle.abc_term.specs.Processes.{Nil, Output, Input, Update, Component}
use Rattle.abc_term.specs.Systems.{Multicasts}
use Rattle.abc_term.specs.Examples.Writing.{name, number, set, component, label}

abbrev pub x : Name
x = name 0

abbrev pub y : Name
y = name 1

abbrev pub z : Name
z = name 2

abbrev pub first : Name
first = name 3

abbrev pub second : Name
second = name 4

abbrev pub hears : List Name → List Update → Component
hears xs us = component [] [] (Input True xs us Nil)

abbrev pub two : List Expr
two = Plain (Literal (number 1)) ∷ Plain (Literal (number 2)) ∷ []

-- Only c has as many variables as there are values, and it binds them in order; b and d discard the message.
abbrev pub OnlySameLength : Type 0
OnlySameLength =
    let b = hears (x ∷ []) (set first (Var x) ∷ []) in
    let d = hears (x ∷ y ∷ z ∷ []) (set first (Var x) ∷ []) in
    Multicasts []
    (component [] [] (Output two True [] Nil)
    ∷ b
    ∷ hears (x ∷ y ∷ []) (set first (Var x) ∷ set second (Var y) ∷ [])
    ∷ d
    ∷ []) 0 0 ((2, 0) ∷ [])
    (label [] True (number 1 ∷ number 2 ∷ []))
    (component [] [] Nil ∷ b ∷ component ((first, number 1) ∷ (second, number 2) ∷ []) [] Nil ∷ d ∷ [])
