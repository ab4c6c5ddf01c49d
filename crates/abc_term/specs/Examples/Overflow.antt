-- A sum that doesn't fit is none, and setting none removes the attribute
-- comp a { n = 9223372036854775807; show; run (1) @ (tt) . [n := n + 1] [m := n]
--   { when (n < 5) (2) @ (tt) . 0 + when (not n < 5) (3) @ (tt) . 0 }; }
use Rattle.std.specs.Prelude.{[], ◌∷◌, ◌^◌, ◌-◌}
use Rattle.abc_pred.specs.declared.names.Name.{Name}
use Rattle.abc_pred.specs.Terms.{Literal, Attr, Add, True, Less, Not}
use Rattle.abc_term.specs.Processes.{Process, Nil, Output, When, Choice}
use Rattle.abc_term.specs.Systems.{Multicasts}
use Rattle.abc_term.specs.Examples.Writing.{name, number, say, set, component, label}

abbrev pub n : Name
n = name 0

abbrev pub m : Name
m = name 1

abbrev pub rest : Process
rest =
    Choice (When (Less (Attr n) (Literal (number 5))) (Output (say (number 2)) True [] Nil))
    (When (Not (Less (Attr n) (Literal (number 5)))) (Output (say (number 3)) True [] Nil))

-- The first update removes n, and the second sees that.
abbrev pub OverflowRemoves : Type 0
OverflowRemoves =
    Multicasts []
    (component ((n, number (2 ^ 63 - 1)) ∷ []) []
    (Output (say (number 1)) True (set n (Add (Attr n) (Literal (number 1))) ∷ set m (Attr n) ∷ []) rest)
    ∷ []) 0 0 []
    (label [] True (number 1 ∷ [])) (component [] [] rest ∷ [])

-- None is not below 5.
abbrev pub NoneIsNotLess : Type 0
NoneIsNotLess = Multicasts [] (component [] [] rest ∷ []) 0 0 [] (label [] True (number 3 ∷ [])) (component [] [] Nil ∷ [])
