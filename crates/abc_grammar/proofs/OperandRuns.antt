-- A machine that goes over the tokens of an operand, and where it stands after each part of the grammar.
use Rattle.std.proofs.Common.{◌≡◌, Bool, true, false, List, [], ◌∷◌, ◌++◌, Option, Some, None, refl, ap, ◌∙◌}
use Rattle.std.specs.Prelude.{pos, neg_ℤ}
use Rattle.abc_value.specs.declared.scalar.Scalar.{Scalar}
use Rattle.abc_value.specs.declared.scalar.Scalar.TheVariants as s
use Rattle.abc_value.specs.declared.value.Value.{Value}
use Rattle.abc_value.specs.declared.value.Value.TheVariants as v
use Rattle.abc_value.specs.Sets.{set_of}
use Rattle.abc_value.specs.Values.{fits_64}
use Rattle.abc_pred.specs.Terms.{Operand}
use Rattle.abc_pred.specs.Terms as o
use Rattle.abc_grammar.specs.declared.lexemes.Lexeme.{Lexeme}
use Rattle.abc_grammar.specs.declared.lexemes.Lexeme.TheVariants as l
use Rattle.abc_text.specs.declared.words.Mark.TheVariants as m
use Rattle.abc_text.specs.declared.words.Keyword.TheVariants as k
use Rattle.abc_grammar.specs.Listed.{AreListed, MayBeListed}
use Rattle.abc_grammar.specs.Listed as listed
use Rattle.abc_grammar.specs.Literals.{IsScalar, IsLiteral}
use Rattle.abc_grammar.specs.Literals as lit
use Rattle.abc_grammar.specs.Operands.{IsOperand, IsProduct, IsAtom}
use Rattle.abc_grammar.specs.Operands as g
use Rattle.abc_grammar.proofs.Runs.{then_run, run, run_on}

-- what a closing bracket makes of the operand in it
pub data Bracket : Type 0 where
  Round : Bracket
  SizeOf : Bracket
  FreeOf : Bracket

abbrev pub closed : Bracket → Operand → Operand
closed Round a = a
closed SizeOf a = o.Size a
closed FreeOf a = o.Free a

-- an operand to the left, and whether it is added to
abbrev pub Left : Type 0
Left = Option (Operand × Bool)

abbrev pub summed : Left → Operand → Operand
summed None b = b
summed (Some (a, true)) b = o.Add a b
summed (Some (a, false)) b = o.Sub a b

abbrev pub multiplied : Option Operand → Operand → Operand
multiplied None b = b
multiplied (Some a) b = o.Mul a b

-- open brackets, each with what stands to its left
pub data Around : Type 0 where
  Outside : Around
  Inside : Bracket → Left → Option Operand → Around → Around

-- A sum and a factor to the left, and open brackets, and: an atom comes; a product has come; a number comes behind a
-- sign; a dot or a name comes behind `this`; a bracket comes; a scalar or the end of a set comes, behind these; a
-- comma or the end comes; a number comes behind a sign.
pub data State : Type 0 where
  Want : Left → Option Operand → Around → State
  Have : Left → Operand → Around → State
  Sign : Left → Option Operand → Around → State
  Own : Left → Option Operand → Around → State
  OwnDot : Left → Option Operand → Around → State
  Call : Bracket → Left → Option Operand → Around → State
  Members : Left → Option Operand → Around → List Scalar → State
  Member : Left → Option Operand → Around → List Scalar → State
  MemberSign : Left → Option Operand → Around → List Scalar → State

abbrev pub start : State
start = Want None None Outside

abbrev pub atom_come : Left → Option Operand → Around → Operand → Option State
atom_come sum factor around a = Some (Have sum (multiplied factor a) around)

abbrev pub scalar_come : Left → Option Operand → Around → Scalar → Option State
scalar_come sum factor around x = atom_come sum factor around (o.Literal (v.Scalar x))

-- a number, if it is one of 64 bits
abbrev pub counted : Bool → Option State → Option State
counted true o = o
counted false o = None

abbrev pub wanting : Left → Option Operand → Around → Lexeme → Option State
wanting sum factor around (l.Number n) = counted (fits_64 (pos n)) (scalar_come sum factor around (s.Number (pos n)))
wanting sum factor around (l.Text bytes) = scalar_come sum factor around (s.Text bytes)
wanting sum factor around (l.Keyword k.True) = scalar_come sum factor around (s.Truth true)
wanting sum factor around (l.Keyword k.False) = scalar_come sum factor around (s.Truth false)
wanting sum factor around (l.Keyword k.None) = atom_come sum factor around (o.Literal v.Nothing)
wanting sum factor around (l.Name a) = atom_come sum factor around (o.Attr a)
wanting sum factor around (l.Variable x) = atom_come sum factor around (o.Var x)
wanting sum factor around (l.Mark m.Minus) = Some (Sign sum factor around)
wanting sum factor around (l.Mark m.OpenCurly) = Some (Members sum factor around [])
wanting sum factor around (l.Mark m.OpenRound) = Some (Want None None (Inside Round sum factor around))
wanting sum factor around (l.Keyword k.This) = Some (Own sum factor around)
wanting sum factor around (l.Keyword k.Size) = Some (Call SizeOf sum factor around)
wanting sum factor around (l.Keyword k.Free) = Some (Call FreeOf sum factor around)
wanting sum factor around _ = None

abbrev pub close : Around → Operand → Option State
close Outside a = None
close (Inside bracket sum factor around) a = atom_come sum factor around (closed bracket a)

abbrev pub having : Left → Operand → Around → Lexeme → Option State
having sum a around (l.Mark m.Star) = Some (Want sum (Some a) around)
having sum a around (l.Mark m.Plus) = Some (Want (Some (summed sum a, true)) None around)
having sum a around (l.Mark m.Minus) = Some (Want (Some (summed sum a, false)) None around)
having sum a around (l.Mark m.CloseRound) = close around (summed sum a)
having sum a around _ = None

abbrev pub signed : Left → Option Operand → Around → Lexeme → Option State
signed sum factor around (l.Number n) = counted (fits_64 (neg_ℤ (pos n))) (scalar_come sum factor around (s.Number (neg_ℤ (pos n))))
signed sum factor around _ = None

abbrev pub owned : Left → Option Operand → Around → Lexeme → Option State
owned sum factor around (l.Mark m.Dot) = Some (OwnDot sum factor around)
owned sum factor around _ = None

abbrev pub own_name : Left → Option Operand → Around → Lexeme → Option State
own_name sum factor around (l.Name a) = atom_come sum factor around (o.This a)
own_name sum factor around _ = None

abbrev pub called : Bracket → Left → Option Operand → Around → Lexeme → Option State
called bracket sum factor around (l.Mark m.OpenRound) = Some (Want None None (Inside bracket sum factor around))
called bracket sum factor around _ = None

abbrev pub set_come : Left → Option Operand → Around → List Scalar → Option State
set_come sum factor around xs = atom_come sum factor around (o.Literal (v.Set (set_of xs)))

abbrev pub member : Left → Option Operand → Around → List Scalar → Scalar → Option State
member sum factor around xs x = Some (Member sum factor around (xs ++ x ∷ []))

abbrev pub members : Left → Option Operand → Around → List Scalar → Lexeme → Option State
members sum factor around xs (l.Number n) = counted (fits_64 (pos n)) (member sum factor around xs (s.Number (pos n)))
members sum factor around xs (l.Text bytes) = member sum factor around xs (s.Text bytes)
members sum factor around xs (l.Keyword k.True) = member sum factor around xs (s.Truth true)
members sum factor around xs (l.Keyword k.False) = member sum factor around xs (s.Truth false)
members sum factor around xs (l.Mark m.Minus) = Some (MemberSign sum factor around xs)
members sum factor around xs (l.Mark m.CloseCurly) = set_come sum factor around xs
members sum factor around xs _ = None

abbrev pub behind_member : Left → Option Operand → Around → List Scalar → Lexeme → Option State
behind_member sum factor around xs (l.Mark m.Comma) = Some (Members sum factor around xs)
behind_member sum factor around xs (l.Mark m.CloseCurly) = set_come sum factor around xs
behind_member sum factor around xs _ = None

abbrev pub signed_member : Left → Option Operand → Around → List Scalar → Lexeme → Option State
signed_member sum factor around xs (l.Number n) = counted (fits_64 (neg_ℤ (pos n))) (member sum factor around xs (s.Number (neg_ℤ (pos n))))
signed_member sum factor around xs _ = None

abbrev pub step : State → Lexeme → Option State
step (Want sum factor around) t = wanting sum factor around t
step (Have sum a around) t = having sum a around t
step (Sign sum factor around) t = signed sum factor around t
step (Own sum factor around) t = owned sum factor around t
step (OwnDot sum factor around) t = own_name sum factor around t
step (Call bracket sum factor around) t = called bracket sum factor around t
step (Members sum factor around xs) t = members sum factor around xs t
step (Member sum factor around xs) t = behind_member sum factor around xs t
step (MemberSign sum factor around xs) t = signed_member sum factor around xs t

-- ---- where the machine stands
pub scalar_run :
    {ts : List Lexeme} {x : Scalar} → IsScalar ts x → (sum : Left) (factor : Option Operand) (around : Around) →
    run step (Want sum factor around) ts ≡ scalar_come sum factor around x
scalar_run (lit.number {n} h) sum factor around = ap (λ b. then_run (λ r. Some r) (counted b (scalar_come sum factor around (s.Number (pos n))))) h
scalar_run (lit.negative {n} h) sum factor around = ap (λ b. then_run (λ r. Some r) (counted b (scalar_come sum factor around (s.Number (neg_ℤ (pos n)))))) h
scalar_run lit.text sum factor around = refl
scalar_run lit.yes sum factor around = refl
scalar_run lit.no sum factor around = refl

member_run :
    {ts : List Lexeme} {x : Scalar} → IsScalar ts x → (sum : Left) (factor : Option Operand) (around : Around) (xs : List Scalar) →
    run step (Members sum factor around xs) ts ≡ member sum factor around xs x
member_run (lit.number {n} h) sum factor around xs = ap (λ b. then_run (λ r. Some r) (counted b (member sum factor around xs (s.Number (pos n))))) h
member_run (lit.negative {n} h) sum factor around xs = ap (λ b. then_run (λ r. Some r) (counted b (member sum factor around xs (s.Number (neg_ℤ (pos n)))))) h
member_run lit.text sum factor around xs = refl
member_run lit.yes sum factor around xs = refl
member_run lit.no sum factor around xs = refl

members_run :
    {ts : List Lexeme} {xs : List Scalar} → AreListed IsScalar ts xs → (sum : Left) (factor : Option Operand) (around : Around) →
    run step (Members sum factor around []) ts ≡ Some (Member sum factor around xs)
members_run (listed.one h) sum factor around = member_run h sum factor around []
members_run (listed.more {ts} {us} {items = xs} {a = x} before h) sum factor around =
    run_on step _ _ _ ts (l.Mark m.Comma ∷ us) (members_run before sum factor around) (member_run h sum factor around xs)

set_run :
    {ts : List Lexeme} {xs : List Scalar} → MayBeListed IsScalar ts xs → (sum : Left) (factor : Option Operand) (around : Around) →
    run step (Members sum factor around []) (ts ++ l.Mark m.CloseCurly ∷ []) ≡ set_come sum factor around xs
set_run listed.none sum factor around = refl
set_run (listed.some {ts} h) sum factor around = run_on step _ _ _ ts (l.Mark m.CloseCurly ∷ []) (members_run h sum factor around) refl

literal_run :
    {ts : List Lexeme} {x : Value} → IsLiteral ts x → (sum : Left) (factor : Option Operand) (around : Around) →
    run step (Want sum factor around) ts ≡ atom_come sum factor around (o.Literal x)
literal_run (lit.scalar h) sum factor around = scalar_run h sum factor around
literal_run lit.nothing sum factor around = refl
literal_run (lit.set h) sum factor around = set_run h sum factor around

-- behind an operand: what is summed to the left of its last product, and that product
pub record Stands (ts : List Lexeme) (around : Around) (a : Operand) : Type 0 where
  pub sum : Left
  pub last : Operand
  pub runs : run step (Want None None around) ts ≡ Some (Have sum last around)
  pub is : summed sum last ≡ a

-- a bracket behind an operand
closes :
    {ts : List Lexeme} {a : Operand} (bracket : Bracket) (sum : Left) (factor : Option Operand) (around : Around) →
    Stands ts (Inside bracket sum factor around) a →
    run step (Want None None (Inside bracket sum factor around)) (ts ++ l.Mark m.CloseRound ∷ []) ≡ atom_come sum factor around (closed bracket a)
closes {ts} bracket sum factor around h =
    run_on step _ _ _ ts (l.Mark m.CloseRound ∷ []) h.runs (ap (λ b. atom_come sum factor around (closed bracket b)) h.is)

mutual
  pub operand_run : {ts : List Lexeme} {a : Operand} → IsOperand ts a → (around : Around) → Stands ts around a
  operand_run (g.product {ts} {a} h) around = record { sum = None; last = a; runs = product_run h None around; is = refl }
  operand_run (g.plus {ts} {us} {a} {b} h i) around =
      let r : Stands ts around a = operand_run h around in
      record {
        sum = Some (a, true);
        last = b;
        runs = run_on step _ _ _ ts (l.Mark m.Plus ∷ us) r.runs (ap (λ c. run step (Want (Some (c, true)) None around) us) r.is ∙ product_run i (Some (a, true)) around);
        is = refl;
      }
  operand_run (g.minus {ts} {us} {a} {b} h i) around =
      let r : Stands ts around a = operand_run h around in
      record {
        sum = Some (a, false);
        last = b;
        runs = run_on step _ _ _ ts (l.Mark m.Minus ∷ us) r.runs (ap (λ c. run step (Want (Some (c, false)) None around) us) r.is ∙ product_run i (Some (a, false)) around);
        is = refl;
      }

  product_run : {ts : List Lexeme} {a : Operand} → IsProduct ts a → (sum : Left) (around : Around) → run step (Want sum None around) ts ≡ Some (Have sum a around)
  product_run (g.atom h) sum around = atom_run h sum None around
  product_run (g.times {ts} {us} {a} {b} h i) sum around = run_on step _ _ _ ts (l.Mark m.Star ∷ us) (product_run h sum around) (atom_run i sum (Some a) around)

  pub atom_run :
      {ts : List Lexeme} {a : Operand} → IsAtom ts a → (sum : Left) (factor : Option Operand) (around : Around) →
      run step (Want sum factor around) ts ≡ atom_come sum factor around a
  atom_run (g.literal h) sum factor around = literal_run h sum factor around
  atom_run g.attribute sum factor around = refl
  atom_run g.own sum factor around = refl
  atom_run g.variable sum factor around = refl
  atom_run (g.bracketed h) sum factor around = closes Round sum factor around (operand_run h (Inside Round sum factor around))
  atom_run (g.size h) sum factor around = closes SizeOf sum factor around (operand_run h (Inside SizeOf sum factor around))
  atom_run (g.free h) sum factor around = closes FreeOf sum factor around (operand_run h (Inside FreeOf sum factor around))

-- The tokens of an operand are in one way an operand.
pub one_operand : {ts : List Lexeme} {a b : Operand} → IsOperand ts a → IsOperand ts b → a ≡ b
one_operand h i =
    let x = atom_run (g.bracketed h) None None Outside in
    let y = atom_run (g.bracketed i) None None Outside in
    cc
