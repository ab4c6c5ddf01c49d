-- A trace, renumbered through the definitions.
use Rattle.std.specs.Prelude.{◌≡◌, ℕ, [], ◌∷◌, codes, pos, Some, None}
use Rattle.abc_value.specs.declared.scalar.Scalar.TheVariants as s
use Rattle.abc_value.specs.declared.value.Value.{Value}
use Rattle.abc_value.specs.declared.value.Value.TheVariants as v
use Rattle.abc_pred.specs.declared.names.Name.{Name}
use Rattle.abc_pred.specs.declared.syntax.Operand as o
use Rattle.abc_pred.specs.declared.syntax.Pred as p
use Rattle.abc_pred.specs.Terms as t
use Rattle.abc_shape.specs.declared.shape.Shape.TheVariants.{Ring}
use Rattle.abc_trace.specs.declared.trace.Head.TheVariants.{Net}
use Rattle.abc_trace.specs.declared.trace.Said.{Said}
use Rattle.abc_trace.specs.declared.trace.Trace.{Trace}
use Rattle.abc_trace_laws.specs.Plain.{PlainSaid, PlainTrace}
use Rattle.abc_trace_laws.specs.Renumbered.{renumbered}

abbrev pub name : ℕ → Name
name n = record { 0 = n }

abbrev pub integer : ℕ → Value
integer n = v.Scalar (s.Number (pos n))

-- ---- written
-- The names 0 to 3 are the words x, Bob, a and Ann. Ann says 5, for those with a = 5, and Bob
-- hears; then Bob has nothing to say.
abbrev pub said : Said
said = record {
  place = 1;
  values = integer 5 ∷ [];
  pred = p.Same (o.Attr (name 2)) (o.Literal (integer 5));
  heard = (name 1, 2) ∷ [];
}

abbrev pub written : Trace
written = record {
  names = codes "x" ∷ codes "Bob" ∷ codes "a" ∷ codes "Ann" ∷ [];
  head = Net Ring 3 2 9;
  lines =
      record { sender = name 3; said = Some said }
      ∷ record { sender = name 1; said = None } ∷ [];
  finals =
      record { component = name 3; entries = [] }
      ∷ record { component = name 1; entries = (name 2, integer 5) ∷ [] } ∷ [];
  handled = 6 ∷ 0 ∷ [];
}

-- ---- and read back
-- Its text has the words Ann, a and Bob, in this order, and no x.
abbrev pub read_said : PlainSaid
read_said = record {
  place = 1;
  values = integer 5 ∷ [];
  pred = t.Same (t.Attr (name 1)) (t.Literal (integer 5));
  heard = (name 2, 2) ∷ [];
}

abbrev pub read : PlainTrace
read = record {
  names = codes "Ann" ∷ codes "a" ∷ codes "Bob" ∷ [];
  head = Net Ring 3 2 9;
  lines =
      record { sender = name 0; said = Some read_said }
      ∷ record { sender = name 2; said = None } ∷ [];
  finals =
      record { component = name 0; entries = [] }
      ∷ record { component = name 2; entries = (name 1, integer 5) ∷ [] } ∷ [];
  handled = 6 ∷ 0 ∷ [];
}

pub record WorkedRenumbering : Type 0 where
  pub as_met : renumbered written ≡ read
