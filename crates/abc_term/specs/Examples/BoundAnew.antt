-- A variable that an inner input binds anew
-- comp a { show; run (1, 2) @ (tt) . (2) @ (tt) . 0; }
-- comp b { show; run ? (tt) ($x, $y) . ? ($x = $y) ($x) . [got := $x] [kept := $y] ($x, $y) @ (tt) . 0; }
use Rattle.std.specs.Prelude.{[], ◌∷◌}
use Rattle.abc_pred.specs.declared.names.Name.{Name}
use Rattle.abc_pred.specs.Maps.{Entries}
use Rattle.abc_pred.specs.Terms.{Operand, Literal, Var, Plain, True, Same}
use Rattle.abc_term.specs.Processes.{Process, Nil, Output, Input, System}
use Rattle.abc_term.specs.Systems.{Multicasts}
use Rattle.abc_term.specs.Examples.Writing.{name, number, say, set, component, label}

abbrev pub x : Name
x = name 0

abbrev pub y : Name
y = name 1

abbrev pub got : Name
got = name 2

abbrev pub kept : Name
kept = name 3

-- what b does at the last, with what stands in the places of its variables
abbrev pub tells : Operand → Operand → Process
tells o p = Output (Plain o ∷ Plain p ∷ []) True [] Nil

abbrev pub inner : Operand → Process
inner p = Input (Same (Var x) p) (x ∷ []) (set got (Var x) ∷ set kept p ∷ []) (tells (Var x) p)

abbrev pub both : Process → Entries → Process → System
both P env Q = component [] [] P ∷ component env [] Q ∷ []

abbrev pub again : Process
again = Output (say (number 2)) True [] Nil

-- The first message's values are put for $y alone: the inner input's $x is another one, in its predicate, its updates and what follows.
abbrev pub OuterStopsThere : Type 0
OuterStopsThere =
    Multicasts []
    (both (Output (Plain (Literal (number 1)) ∷ say (number 2)) True [] again) [] (Input True (x ∷ y ∷ []) [] (inner (Var y))))
    0 0 ((1, 0) ∷ [])
    (label [] True (number 1 ∷ number 2 ∷ [])) (both again [] (inner (Literal (number 2))))

-- The second message has 2 for it, which is what the predicate asks for.
abbrev pub InnerIsItsOwn : Type 0
InnerIsItsOwn =
    Multicasts [] (both again [] (inner (Literal (number 2)))) 0 0 ((1, 0) ∷ [])
    (label [] True (number 2 ∷ []))
    (both Nil ((got, number 2) ∷ (kept, number 2) ∷ []) (tells (Literal (number 2)) (Literal (number 2))))
