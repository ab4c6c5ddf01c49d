-- An input's variable in what follows
-- comp a { show; run (3) @ (tt) . 0; }
-- comp b { show; run ? (tt) ($x) . [got := $x] when (got = $x) ($x, 4) @ (to = $x) . [kept := $x] 0; }
use Rattle.std.specs.Prelude.{[], ◌∷◌}
use Rattle.abc_pred.specs.declared.names.Name.{Name}
use Rattle.abc_pred.specs.Maps.{Entries}
use Rattle.abc_pred.specs.Terms.{Operand, Literal, Attr, Var, Plain, True, Same}
use Rattle.abc_term.specs.Processes.{Process, Nil, Output, Input, When, System}
use Rattle.abc_term.specs.Systems.{Multicasts}
use Rattle.abc_term.specs.Examples.Writing.{name, number, say, is, set, component, label}

abbrev pub x : Name
x = name 0

abbrev pub got : Name
got = name 1

abbrev pub to : Name
to = name 2

abbrev pub kept : Name
kept = name 3

-- what b does with what stands in the place of its variable
abbrev pub passes_on : Operand → Process
passes_on o =
    When (Same (Attr got) o) (Output (Plain o ∷ say (number 4)) (Same (Attr to) o) (set kept o ∷ []) Nil)

abbrev pub idle : Entries → Process → System
idle env P = component [] [] Nil ∷ component env [] P ∷ []

-- b hears 3, and 3 stands for its variable in what follows: in the guard, the tuple, the predicate and the update.
abbrev pub ValueIsPut : Type 0
ValueIsPut =
    Multicasts []
    (component [] [] (Output (say (number 3)) True [] Nil)
    ∷ component [] [] (Input True (x ∷ []) (set got (Var x) ∷ []) (passes_on (Var x)))
    ∷ []) 0 0 ((1, 0) ∷ [])
    (label [] True (number 3 ∷ [])) (idle ((got, number 3) ∷ []) (passes_on (Literal (number 3))))

-- Then b passes it on.
abbrev pub IsPassedOn : Type 0
IsPassedOn =
    Multicasts [] (idle ((got, number 3) ∷ []) (passes_on (Literal (number 3)))) 1 0 []
    (label [] (is to (number 3)) (number 3 ∷ number 4 ∷ []))
    (idle ((got, number 3) ∷ (kept, number 3) ∷ []) Nil)
