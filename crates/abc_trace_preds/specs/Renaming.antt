-- Predicates whose names are numbered anew.
use Rattle.std.specs.Prelude.{ℕ, List, slice_get}
use Rattle.std.specs.Option.{option_map_or}
use Rattle.abc_pred.specs.declared.names.Name.{Name}
use Rattle.abc_pred.specs.Terms.{Operand, Pred}
use Rattle.abc_pred.specs.Terms as t

-- the same operand, each name by its new number
abbrev pub renamed_operand : (Name → Name) → Operand → Operand
renamed_operand r (t.Literal v) = t.Literal v
renamed_operand r (t.Attr a) = t.Attr (r a)
renamed_operand r (t.This a) = t.This (r a)
renamed_operand r (t.Var x) = t.Var (r x)
renamed_operand r (t.Add a b) = t.Add (renamed_operand r a) (renamed_operand r b)
renamed_operand r (t.Sub a b) = t.Sub (renamed_operand r a) (renamed_operand r b)
renamed_operand r (t.Mul a b) = t.Mul (renamed_operand r a) (renamed_operand r b)
renamed_operand r (t.Size a) = t.Size (renamed_operand r a)
renamed_operand r (t.Free a) = t.Free (renamed_operand r a)

-- the same predicate
abbrev pub renamed : (Name → Name) → Pred → Pred
renamed r t.True = t.True
renamed r t.False = t.False
renamed r (t.Same a b) = t.Same (renamed_operand r a) (renamed_operand r b)
renamed r (t.Less a b) = t.Less (renamed_operand r a) (renamed_operand r b)
renamed r (t.Member a b) = t.Member (renamed_operand r a) (renamed_operand r b)
renamed r (t.Not p) = t.Not (renamed r p)
renamed r (t.And p q) = t.And (renamed r p) (renamed r q)
renamed r (t.Or p q) = t.Or (renamed r p) (renamed r q)

-- The new number of a name stands at its old one; a name past the end keeps its own.
abbrev pub numbered : List ℕ → Name → Name
numbered numbers n = option_map_or (λ (k : ℕ). record { 0 = k }) (slice_get numbers n.0) n
