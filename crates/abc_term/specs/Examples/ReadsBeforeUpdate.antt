-- An output that reads what it updates
-- comp a { n = 1; show n; run (n, n + 1) @ (m = this.n) . [n := n + 5] 0; }
use Rattle.std.specs.Prelude.{ℕ, [], ◌∷◌}
use Rattle.abc_pred.specs.declared.names.Name.{Name}
use Rattle.abc_pred.specs.Terms.{Operand, Literal, Attr, This, Add, Plain, Same}
use Rattle.abc_term.specs.Processes.{Process, Nil, Output, System}
use Rattle.abc_term.specs.Systems.{Multicasts}
use Rattle.abc_term.specs.Examples.Writing.{name, number, is, set, component, label}

abbrev pub n : Name
n = name 0

abbrev pub m : Name
m = name 1

abbrev pub plus : ℕ → Operand
plus k = Add (Attr n) (Literal (number k))

abbrev pub says : Process
says = Output (Plain (Attr n) ∷ Plain (plus 1) ∷ []) (Same (Attr m) (This n)) (set n (plus 5) ∷ []) Nil

abbrev pub a : ℕ → Process → System
a value P = component ((n, number value) ∷ []) (n ∷ []) P ∷ []

-- What is shown, the predicate and the values are those before the update, and the update is made in the same step.
abbrev pub OldIsRead : Type 0
OldIsRead =
    Multicasts [] (a 1 says) 0 0 [] (label ((n, number 1) ∷ []) (is m (number 1)) (number 1 ∷ number 2 ∷ [])) (a 6 Nil)
