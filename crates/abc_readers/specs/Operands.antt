-- Reading literals and operands, as plain functions on lists of lexemes.
use Rattle.std.specs.Prelude.{Bool, true, false, List, [], ◌∷◌, ◌++◌, Some, None, pos, neg_ℤ}
use Rattle.abc_value.specs.declared.scalar.Scalar.{Scalar}
use Rattle.abc_value.specs.declared.scalar.Scalar.TheVariants as s
use Rattle.abc_value.specs.declared.value.Value.{Value}
use Rattle.abc_value.specs.declared.value.Value.TheVariants as v
use Rattle.abc_value.specs.Values.{fits_64}
use Rattle.abc_value.specs.Sets.{set_of}
use Rattle.abc_pred.specs.Terms.{Operand}
use Rattle.abc_pred.specs.Terms as o
use Rattle.abc_cause.specs.declared.Cause.{Cause}
use Rattle.abc_cause.specs.declared.Cause.TheVariants.{Syntax}
use Rattle.abc_grammar.specs.declared.lexemes.Lexeme.{Lexeme}
use Rattle.abc_grammar.specs.declared.lexemes.Lexeme.TheVariants as l
use Rattle.abc_text.specs.declared.words.Mark.TheVariants as m
use Rattle.abc_text.specs.declared.words.Keyword.TheVariants as k
use Rattle.abc_reading.specs.Reading.{Outcome, Read, Refused, ◌>>=◌, mapped, again, Joins, chain}

abbrev pub Tokens : Type 0
Tokens = List Lexeme

abbrev pub Reading : Type 0 → Type 0
Reading A = Outcome Lexeme Cause A

abbrev pub refuse : {A : Type 0} → Tokens → Reading A
refuse ts = Refused Syntax ts

-- ---- marks that close
abbrev pub close_round : {A : Type 0} → A → Tokens → Reading A
close_round a (l.Mark m.CloseRound ∷ ts) = Read a ts
close_round a ts = refuse ts

abbrev pub close_curly : {A : Type 0} → A → Tokens → Reading A
close_curly a (l.Mark m.CloseCurly ∷ ts) = Read a ts
close_curly a ts = refuse ts

-- ---- scalars
-- a scalar that was read, if it is one of 64 bits
abbrev pub read_if : Bool → Scalar → Tokens → Tokens → Reading Scalar
read_if true x ts rest = Read x rest
read_if false x ts rest = refuse ts

-- behind a sign
abbrev pub negative : Tokens → Reading Scalar
negative (l.Number n ∷ ts) = read_if (fits_64 (neg_ℤ (pos n))) (s.Number (neg_ℤ (pos n))) (l.Number n ∷ ts) ts
negative ts = refuse ts

abbrev pub text_at : Tokens → Reading Scalar
text_at (l.Text bytes ∷ ts) = Read (s.Text bytes) ts
text_at ts = refuse ts

abbrev pub scalar_at : Tokens → Reading Scalar
scalar_at (l.Number n ∷ ts) = read_if (fits_64 (pos n)) (s.Number (pos n)) (l.Number n ∷ ts) ts
scalar_at (l.Mark m.Minus ∷ ts) = negative ts
scalar_at (l.Keyword k.True ∷ ts) = Read (s.Truth true) ts
scalar_at (l.Keyword k.False ∷ ts) = Read (s.Truth false) ts
scalar_at ts = text_at ts

unfoldable pub scalar : Tokens → Reading Scalar
scalar ts = scalar_at ts

-- ---- items parted by commas
abbrev pub alone : {A : Type 0} → A → List A
alone a = a ∷ []

abbrev pub commas : {A : Type 0} → Joins Lexeme (List A)
commas (l.Mark m.Comma) = Some (λ xs ys. xs ++ ys)
commas t = None

abbrev pub listed : {A : Type 0} → (Tokens → Reading A) → Tokens → Reading (List A)
listed item ts = chain Syntax (λ us. mapped alone (item us)) commas ts

-- the members of a set literal, behind its opening brace
unfoldable pub members : Tokens → Reading (List Scalar)
members ts = listed scalar ts >>= close_curly

abbrev pub members_at : Tokens → Reading (List Scalar)
members_at (l.Mark m.CloseCurly ∷ ts) = Read [] ts
members_at ts = members ts

-- ---- literals
abbrev pub set_value_of : List Scalar → Value
set_value_of xs = v.Set (set_of xs)

abbrev pub literal_at : Tokens → Reading Value
literal_at (l.Keyword k.None ∷ ts) = Read v.Nothing ts
literal_at (l.Mark m.OpenCurly ∷ ts) = mapped set_value_of (members_at ts)
literal_at ts = mapped v.Scalar (scalar ts)

unfoldable pub literal : Tokens → Reading Value
literal ts = literal_at ts

-- ---- operands, where inner reads the operands in brackets
abbrev pub literal_of : Scalar → Operand
literal_of x = o.Literal (v.Scalar x)

abbrev pub set_literal_of : List Scalar → Operand
set_literal_of xs = o.Literal (v.Set (set_of xs))

abbrev pub own_named : Tokens → Reading Operand
own_named (l.Name a ∷ ts) = Read (o.This a) ts
own_named ts = refuse ts

-- behind `this`
abbrev pub own : Tokens → Reading Operand
own (l.Mark m.Dot ∷ ts) = own_named ts
own ts = refuse ts

abbrev pub stars : Joins Lexeme Operand
stars (l.Mark m.Star) = Some o.Mul
stars t = None

abbrev pub signs : Joins Lexeme Operand
signs (l.Mark m.Plus) = Some o.Add
signs (l.Mark m.Minus) = Some o.Sub
signs t = None

module _ (inner : Tokens → Reading Operand) where
  -- behind an opening bracket
  abbrev pub bracketed_by : Tokens → Reading Operand
  bracketed_by ts = inner ts >>= close_round

  -- behind `size` or `free`
  abbrev pub applied_by : Tokens → Reading Operand
  applied_by (l.Mark m.OpenRound ∷ ts) = bracketed_by ts
  applied_by ts = refuse ts

  abbrev pub atom_by : Tokens → Reading Operand
  atom_by (l.Keyword k.None ∷ ts) = Read (o.Literal v.Nothing) ts
  atom_by (l.Mark m.OpenCurly ∷ ts) = mapped set_literal_of (members_at ts)
  atom_by (l.Name a ∷ ts) = Read (o.Attr a) ts
  atom_by (l.Variable x ∷ ts) = Read (o.Var x) ts
  atom_by (l.Keyword k.This ∷ ts) = own ts
  atom_by (l.Mark m.OpenRound ∷ ts) = bracketed_by ts
  atom_by (l.Keyword k.Size ∷ ts) = mapped o.Size (applied_by ts)
  atom_by (l.Keyword k.Free ∷ ts) = mapped o.Free (applied_by ts)
  atom_by ts = mapped literal_of (scalar ts)

  abbrev pub product_by : Tokens → Reading Operand
  product_by ts = chain Syntax atom_by stars ts

  abbrev pub operand_by : Tokens → Reading Operand
  operand_by ts = chain Syntax product_by signs ts

abbrev pub operand_step : (Unit {0} → Tokens → Reading Operand) → Unit {0} → Tokens → Reading Operand
operand_step inner u ts = operand_by (inner tt) ts

-- sum of products of atoms, in which the brackets hold operands
unfoldable pub operand : Tokens → Reading Operand
operand ts = again Syntax operand_step tt ts

unfoldable pub product : Tokens → Reading Operand
product ts = product_by operand ts

unfoldable pub atom : Tokens → Reading Operand
atom ts = atom_by operand ts

unfoldable pub bracketed : Tokens → Reading Operand
bracketed ts = bracketed_by operand ts

unfoldable pub applied : Tokens → Reading Operand
applied ts = applied_by operand ts
