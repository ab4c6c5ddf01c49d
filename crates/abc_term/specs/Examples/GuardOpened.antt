-- A guard made true by another branch's update
-- comp a { n = 0; show; run when (n = 1) (2) @ (tt) . 0 | (1) @ (tt) . [n := 1] 0; }
use Rattle.std.specs.Prelude.{ℕ, [], ◌∷◌}
use Rattle.abc_pred.specs.declared.names.Name.{Name}
use Rattle.abc_pred.specs.Terms.{Literal, True}
use Rattle.abc_term.specs.Processes.{Process, Nil, Output, When, Par, System}
use Rattle.abc_term.specs.Systems.{Multicasts}
use Rattle.abc_term.specs.Examples.Writing.{name, number, say, is, set, component, label}

abbrev pub n : Name
n = name 0

abbrev pub waits : Process
waits = When (is n (number 1)) (Output (say (number 2)) True [] Nil)

abbrev pub a : ℕ → Process → System
a value P = component ((n, number value) ∷ []) [] P ∷ []

-- At first the guarded output has no place: place 0 is the other branch's.
abbrev pub OtherBranchOpens : Type 0
OtherBranchOpens =
    Multicasts [] (a 0 (Par waits (Output (say (number 1)) True (set n (Literal (number 1)) ∷ []) Nil))) 0 0 []
    (label [] True (number 1 ∷ []))
    (a 1 (Par waits Nil))

abbrev pub GuardedSpeaks : Type 0
GuardedSpeaks = Multicasts [] (a 1 (Par waits Nil)) 0 0 [] (label [] True (number 2 ∷ [])) (a 1 (Par Nil Nil))
