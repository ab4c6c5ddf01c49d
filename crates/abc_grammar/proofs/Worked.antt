-- The worked examples.
use Rattle.std.proofs.Common.{◌≡◌, ℕ, false, zero, suc, ◌+◌, ◌<◌, ◌≤◌, inl, inr, List, [], ◌∷◌, ◌++◌, length, Option, None, refl, arith, length-append}
use Rattle.std.specs.Prelude.{IsSomeAnd, replicate, pos}
use Rattle.abc_value.specs.declared.scalar.Scalar.{Scalar}
use Rattle.abc_value.specs.declared.scalar.Scalar.TheVariants as s
use Rattle.abc_pred.specs.declared.names.Name.{Name}
use Rattle.std.proofs.Math.Seq.{take-append_seam}
use Rattle.std.proofs.lemmas.List.{length-replicate}
use Rattle.abc_value.specs.declared.value.Value.{Value}
use Rattle.abc_value.specs.declared.value.Value.TheVariants as v
use Rattle.abc_pred.specs.Terms as t
use Rattle.abc_cause.specs.declared.Cause.{Cause}
use Rattle.abc_cause.specs.declared.Cause.TheVariants as cause
use Rattle.abc_text.specs.declared.lexical.Fault.{Fault}
use Rattle.abc_grammar.specs.declared.lexemes.Lexeme.{Lexeme}
use Rattle.abc_grammar.specs.declared.lexemes.Lexeme.TheVariants as l
use Rattle.abc_text.specs.declared.words.Mark.TheVariants as m
use Rattle.abc_text.specs.declared.words.Keyword.TheVariants as k
use Rattle.abc_text.specs.Words.{keyword_at, mark_at}
use Rattle.abc_grammar.specs.Listed.{AreListed, IsVariable}
use Rattle.abc_grammar.specs.Listed as listed
use Rattle.abc_grammar.specs.Literals.{IsScalar}
use Rattle.abc_grammar.specs.Literals as lit
use Rattle.abc_grammar.specs.Operands.{IsOperand, IsAtom}
use Rattle.abc_grammar.specs.Operands as o
use Rattle.abc_grammar.specs.Exprs.{IsExpr}
use Rattle.abc_grammar.specs.Exprs as e
use Rattle.abc_grammar.specs.Preds.{IsTest}
use Rattle.abc_grammar.specs.Preds as p
use Rattle.abc_grammar.specs.Processes.{IsPrefix}
use Rattle.abc_grammar.specs.Processes as q
use Rattle.abc_grammar.specs.Programs as g
use Rattle.abc_term.specs.Processes as P
use Rattle.abc_grammar.specs.Limits.{At, Begins, opens, starts_item, IsTooLarge}
use Rattle.abc_grammar.specs.Limits.{BeginsExtraToken}
use Rattle.abc_grammar.specs.Refusals.{order, Applies, PassesLimit, IsSomePred, IsSomeProgram}
use Rattle.abc_grammar.specs.Fronts.{IsFront}
use Rattle.abc_grammar.specs.Examples.{a, b, K, number, attr_a, name, InIn, Becomes007, MinusMinusOne, ToTheLeft, NotToTheRight, SumTimesSize, TwoSigns, PlusNothing, SizeOfUnion, LeastNumber, TooGreat, Precedence, RoundBrackets, ChoiceAndPar, OneIsNone, SmallProgram, BracketsOf101, BracketsOf100, ones, run_a, variables, NinthExpr, NinthVariable, ExtraScalar, ExtraToken, SizeFive, FrontOfOne, NoFront, HeaderOfThree, Arrow}
use Rattle.abc_grammar.proofs.OperandRuns.{one_operand, atom_run, Outside}
use Rattle.abc_grammar.proofs.PredRuns.{pred_came}
use Rattle.abc_grammar.proofs.ProcessRuns.{process_came}
use Rattle.abc_grammar.proofs.ProgramRuns.{program_run}

-- ---- what tokens stand for
pub in_in : InIn
unfolding keyword_at mark_at
in_in = refl

pub becomes_007 : Becomes007
unfolding keyword_at mark_at
becomes_007 = refl

-- ---- operands
pub one : IsAtom (l.Number 1 ∷ []) (number 1)
one = o.literal (lit.scalar (lit.number {n = 1} refl))

pub two : IsAtom (l.Number 2 ∷ []) (number 2)
two = o.literal (lit.scalar (lit.number {n = 2} refl))

pub operand : {ts : List Lexeme} {x : t.Operand} → IsAtom ts x → IsOperand ts x
operand h = o.product (o.atom h)

pub minus_minus_one : MinusMinusOne
minus_minus_one =
    o.minus {ts = a ∷ []} {us = l.Mark m.Minus ∷ l.Number 1 ∷ []} (operand o.attribute) (o.atom (o.literal (lit.scalar (lit.negative {n = 1} refl))))

pub to_the_left : ToTheLeft
to_the_left =
    o.minus {ts = a ∷ l.Mark m.Minus ∷ l.Number 1 ∷ []} {us = l.Number 2 ∷ []}
    (o.minus {ts = a ∷ []} {us = l.Number 1 ∷ []} (operand o.attribute) (o.atom one)) (o.atom two)

pub not_to_the_right : NotToTheRight
not_to_the_right h = let same = one_operand to_the_left h in cc

pub sum_times_size : SumTimesSize
sum_times_size =
    o.product (o.times
    {ts = l.Mark m.OpenRound ∷ a ∷ l.Mark m.Plus ∷ l.Number 1 ∷ l.Mark m.CloseRound ∷ []}
    {us = l.Keyword k.Size ∷ l.Mark m.OpenRound ∷ l.Mark m.OpenCurly ∷ l.Number 2 ∷ l.Mark m.Comma ∷ l.Number 1 ∷ l.Mark m.Comma ∷ l.Number 2 ∷ l.Mark m.CloseCurly ∷ l.Mark m.CloseRound ∷ []}
    (o.atom (o.bracketed {ts = a ∷ l.Mark m.Plus ∷ l.Number 1 ∷ []} (o.plus {ts = a ∷ []} {us = l.Number 1 ∷ []} (operand o.attribute) (o.atom one))))
    (o.size {ts = l.Mark m.OpenCurly ∷ l.Number 2 ∷ l.Mark m.Comma ∷ l.Number 1 ∷ l.Mark m.Comma ∷ l.Number 2 ∷ l.Mark m.CloseCurly ∷ []}
    (operand (o.literal (lit.set {ts = l.Number 2 ∷ l.Mark m.Comma ∷ l.Number 1 ∷ l.Mark m.Comma ∷ l.Number 2 ∷ []} {xs = s.Number (pos 2) ∷ s.Number (pos 1) ∷ s.Number (pos 2) ∷ []}
    (listed.some (listed.more {ts = l.Number 2 ∷ l.Mark m.Comma ∷ l.Number 1 ∷ []} {us = l.Number 2 ∷ []} {items = s.Number (pos 2) ∷ s.Number (pos 1) ∷ []}
    (listed.more {ts = l.Number 2 ∷ []} {us = l.Number 1 ∷ []} {items = s.Number (pos 2) ∷ []} (listed.one (lit.number {n = 2} refl)) (lit.number {n = 1} refl))
    (lit.number {n = 2} refl))))))))

pub two_signs : TwoSigns
two_signs x h = let run = atom_run (o.bracketed h) None None Outside in cc

pub plus_nothing : PlusNothing
plus_nothing x h = let run = atom_run (o.bracketed h) None None Outside in cc

pub size_of_union : SizeOfUnion
size_of_union x h = let run = atom_run (o.bracketed h) None None Outside in cc

pub least_number : LeastNumber
least_number = operand (o.literal (lit.scalar (lit.negative {n = 9223372036854775808} refl)))

pub too_great : TooGreat
too_great x h = let run = atom_run (o.bracketed h) None None Outside in cc

-- ---- predicates
a_is_one : IsTest (a ∷ l.Mark m.Equal ∷ l.Number 1 ∷ []) (t.Same attr_a (number 1))
a_is_one = p.same {ts = a ∷ []} {us = l.Number 1 ∷ []} (operand o.attribute) (operand one)

pub precedence : Precedence
precedence =
    p.or {ts = l.Keyword k.Not ∷ a ∷ l.Mark m.Equal ∷ l.Number 1 ∷ l.Keyword k.And ∷ l.Keyword k.Tt ∷ []} {us = l.Keyword k.Ff ∷ []}
    (p.both (p.and {ts = l.Keyword k.Not ∷ a ∷ l.Mark m.Equal ∷ l.Number 1 ∷ []} {us = l.Keyword k.Tt ∷ []} (p.test (p.not a_is_one)) p.always))
    (p.test p.never)

pub round_brackets : RoundBrackets
round_brackets x h = let run = (pred_came h).runs in cc

-- ---- processes and programs
pub one_is_none : OneIsNone
one_is_none A h = let run = (process_came h).runs in cc

-- ---- limits
pub brackets_of_101 : BracketsOf101
brackets_of_101 = record { opener = refl; full = omega arith }

pub brackets_of_100 : BracketsOf100
brackets_of_100 h = let full = h.full in absurd (omega (arith, full))

-- n + 1 values of the number 1
one_scalars : ℕ → List Scalar
one_scalars zero = s.Number (pos 1) ∷ []
one_scalars (suc n) = one_scalars n ++ s.Number (pos 1) ∷ []

length-one_scalars : (n : ℕ) → length (one_scalars n) ≡ n + 1
unfolding one_scalars
length-one_scalars zero = refl
length-one_scalars (suc n) = let more = length-one_scalars n in omega (arith, length-append (one_scalars n) (s.Number (pos 1) ∷ []), more)

scalars_listed : (n : ℕ) → AreListed IsScalar (ones n) (one_scalars n)
unfolding one_scalars
scalars_listed zero = listed.one (lit.number {n = 1} refl)
scalars_listed (suc n) = listed.more (scalars_listed n) (lit.number {n = 1} refl)

one_exprs : ℕ → List t.Expr
one_exprs zero = t.Plain (number 1) ∷ []
one_exprs (suc n) = one_exprs n ++ t.Plain (number 1) ∷ []

exprs_listed : (n : ℕ) → AreListed IsExpr (ones n) (one_exprs n)
unfolding one_exprs
exprs_listed zero = listed.one (e.operand (operand one))
exprs_listed (suc n) = listed.more (exprs_listed n) (e.operand (operand one))

one_names : ℕ → List Name
one_names zero = name 1 ∷ []
one_names (suc n) = one_names n ++ name 1 ∷ []

names_listed : (n : ℕ) → AreListed IsVariable (variables n) (one_names n)
unfolding one_names
names_listed zero = listed.one listed.variable
names_listed (suc n) = listed.more (names_listed n) listed.variable

-- a program that runs one prefix
runs_a : {ts : List Lexeme} {A : P.Process} → IsPrefix ts A → IsSomeProgram (run_a ++ (ts ++ l.Mark m.Semicolon ∷ l.Mark m.CloseCurly ∷ []))
runs_a {ts} h = (
  _,
  g.headed_1 {ts = []} {us = l.Keyword k.Comp ∷ a ∷ l.Mark m.OpenCurly ∷ l.Keyword k.Show ∷ l.Mark m.Semicolon ∷ l.Keyword k.Run ∷ (ts ++ l.Mark m.Semicolon ∷ l.Mark m.CloseCurly ∷ [])}
      listed.none (listed.more {ts = []} listed.none (g.component {c = name 0} {ts = []} {us = []} {vs = ts} listed.none listed.none (q.choice (q.prefix h)))),
)

pub ninth_expr : NinthExpr
unfolding one_exprs
ninth_expr = record {
  exists = omega arith;
  before = run_a;
  parts = ones 7;
  exprs = one_exprs 7;
  listed = exprs_listed 7;
  full = refl;
  stands = refl;
  output = (
    l.Mark m.OpenRound ∷ l.Keyword k.Tt ∷ l.Mark m.CloseRound ∷ l.Mark m.Dot ∷ l.Number 0 ∷ l.Mark m.Semicolon ∷ l.Mark m.CloseCurly ∷ [],
    runs_a {ts = l.Mark m.OpenRound ∷ ones 7 ++ l.Mark m.CloseRound ∷ l.Mark m.At ∷ l.Mark m.OpenRound ∷ l.Keyword k.Tt ∷ l.Mark m.CloseRound ∷ l.Mark m.Dot ∷ l.Number 0 ∷ []}
        (q.output {ts = ones 7} {us = l.Keyword k.Tt ∷ []} {vs = l.Number 0 ∷ []} (listed.some (exprs_listed 7)) (p.both (p.test p.always)) (q.after {ts = []} {us = l.Number 0 ∷ []} listed.none q.nil)),
  );
}

pub ninth_variable : NinthVariable
unfolding one_names
ninth_variable = record {
  exists = omega arith;
  before = run_a ++ l.Mark m.Question ∷ l.Mark m.OpenRound ∷ l.Keyword k.Tt ∷ l.Mark m.CloseRound ∷ [];
  parts = variables 7;
  variables = one_names 7;
  listed = names_listed 7;
  full = refl;
  stands = refl;
  input = (
    l.Number 0 ∷ l.Mark m.Semicolon ∷ l.Mark m.CloseCurly ∷ [],
    runs_a {ts = l.Mark m.Question ∷ l.Mark m.OpenRound ∷ l.Keyword k.Tt ∷ l.Mark m.CloseRound ∷ l.Mark m.OpenRound ∷ variables 7 ++ l.Mark m.CloseRound ∷ l.Mark m.Dot ∷ l.Number 0 ∷ []}
        (q.input {ts = l.Keyword k.Tt ∷ []} {us = variables 7} {vs = l.Number 0 ∷ []} (p.both (p.test p.always)) (listed.some (names_listed 7)) (q.after {ts = []} {us = l.Number 0 ∷ []} listed.none q.nil)),
  );
}

pub extra_scalar : ExtraScalar
extra_scalar before t = record {
  exists = let long = length-append (before ++ l.Mark m.OpenCurly ∷ ones 255 ++ l.Mark m.Comma ∷ []) (t ∷ []) in omega (arith, long);
  before = before;
  parts = ones 255;
  scalars = one_scalars 255;
  listed = scalars_listed 255;
  full = length-one_scalars 255;
  stands = take-append_seam (before ++ l.Mark m.OpenCurly ∷ ones 255 ++ l.Mark m.Comma ∷ []) (t ∷ []);
}

-- none of many equal tokens starts a definition or a component
pub no_start : (n i : ℕ) → ¬ At (replicate n (l.Number 0)) i starts_item
no_start zero i h = absurd h
no_start (suc n) zero h = cc
no_start (suc n) (suc i) h = no_start n i h

no_later_start : (n i : ℕ) → 0 < i → ¬ At (l.Keyword k.Def ∷ replicate n (l.Number 0)) i starts_item
no_later_start n zero above h = absurd (omega arith)
no_later_start n (suc i) above h = no_start n i h

pub extra_token : ExtraToken
extra_token = record {
  exists = let long = length-replicate 2048 (l.Number 0) in omega (arith, long);
  start = 0;
  starts = refl;
  last = λ i above below h. no_later_start 2048 i above h;
  counted = refl;
}

pub size_five : SizeFive
size_five = refl

abbrev one_value : Value
one_value = v.Scalar (s.Number (pos 1))

-- `(a) @ (tt) . [b := 1] 0`
sending :
    q.IsPrefix
    (l.Mark m.OpenRound ∷ a ∷ l.Mark m.CloseRound ∷ l.Mark m.At ∷ l.Mark m.OpenRound ∷ l.Keyword k.Tt ∷ l.Mark m.CloseRound ∷ l.Mark m.Dot
    ∷ l.Mark m.OpenSquare ∷ b ∷ l.Mark m.Becomes ∷ l.Number 1 ∷ l.Mark m.CloseSquare ∷ l.Number 0 ∷ [])
    (P.Output (t.Plain attr_a ∷ []) t.True ((name 1, t.Plain (number 1)) ∷ []) P.Nil)
sending =
    q.output {ts = a ∷ []} {us = l.Keyword k.Tt ∷ []}
    {vs = l.Mark m.OpenSquare ∷ b ∷ l.Mark m.Becomes ∷ l.Number 1 ∷ l.Mark m.CloseSquare ∷ l.Number 0 ∷ []}
    (listed.some (listed.one (e.operand (operand o.attribute)))) (p.both (p.test p.always))
    (q.after {ts = l.Mark m.OpenSquare ∷ b ∷ l.Mark m.Becomes ∷ l.Number 1 ∷ l.Mark m.CloseSquare ∷ []} {us = l.Number 0 ∷ []} {updates = (name 1, t.Plain (number 1)) ∷ []}
    (listed.more {ts = []} {us = l.Mark m.OpenSquare ∷ b ∷ l.Mark m.Becomes ∷ l.Number 1 ∷ l.Mark m.CloseSquare ∷ []} {items = []} listed.none
    (q.update {a = name 1} {ts = l.Number 1 ∷ []} (e.operand (operand one)))) q.nil)

pub choice_and_par : ChoiceAndPar
choice_and_par =
    q.par
    {ts = l.Mark m.OpenRound ∷ a ∷ l.Mark m.CloseRound ∷ l.Mark m.At ∷ l.Mark m.OpenRound ∷ l.Keyword k.Tt ∷ l.Mark m.CloseRound ∷ l.Mark m.Dot
    ∷ l.Mark m.OpenSquare ∷ b ∷ l.Mark m.Becomes ∷ l.Number 1 ∷ l.Mark m.CloseSquare ∷ l.Number 0 ∷ l.Mark m.Plus ∷ K ∷ []}
    {us = l.Mark m.OpenCurly ∷ l.Number 0 ∷ l.Mark m.CloseCurly ∷ []}
    (q.choice (q.plus
    {ts = l.Mark m.OpenRound ∷ a ∷ l.Mark m.CloseRound ∷ l.Mark m.At ∷ l.Mark m.OpenRound ∷ l.Keyword k.Tt ∷ l.Mark m.CloseRound ∷ l.Mark m.Dot
    ∷ l.Mark m.OpenSquare ∷ b ∷ l.Mark m.Becomes ∷ l.Number 1 ∷ l.Mark m.CloseSquare ∷ l.Number 0 ∷ []}
    {us = K ∷ []} (q.prefix sending) q.call))
    (q.prefix (q.braced {ts = l.Number 0 ∷ []} (q.choice (q.prefix q.nil))))

pub small_program : SmallProgram
small_program =
    g.headed_1 {ts = l.Keyword k.Def ∷ K ∷ l.Mark m.Equal ∷ l.Number 0 ∷ l.Mark m.Semicolon ∷ []}
    {us = l.Keyword k.Comp ∷ a ∷ l.Mark m.OpenCurly ∷ b ∷ l.Mark m.Equal ∷ l.Number 1 ∷ l.Mark m.Semicolon
    ∷ l.Keyword k.Show ∷ b ∷ l.Mark m.Semicolon ∷ l.Keyword k.Run ∷ K ∷ l.Mark m.Semicolon ∷ l.Mark m.CloseCurly ∷ []}
    {definitions = (name 2, P.Nil) ∷ []}
    {components = record { name = name 0; initial = (name 1, one_value) ∷ []; show = name 1 ∷ []; run = P.Call (name 2) } ∷ []}
    (listed.more {ts = []} {items = []} listed.none (g.definition {c = name 2} {ts = l.Number 0 ∷ []} (q.choice (q.prefix q.nil))))
    (listed.more {ts = []} {items = []} listed.none
    (g.component {c = name 0} {ts = b ∷ l.Mark m.Equal ∷ l.Number 1 ∷ l.Mark m.Semicolon ∷ []} {us = b ∷ []} {vs = K ∷ []}
    {first = (name 1, one_value) ∷ []} {shown = name 1 ∷ []}
    (listed.more {ts = []} {items = []} listed.none (g.initial {a = name 1} {ts = l.Number 1 ∷ []} (lit.scalar (lit.number {n = 1} refl))))
    (listed.some (listed.one listed.name)) (q.choice (q.prefix q.call))))

-- ---- fronts and refusals
not_empty : {A : Type 0} (xs ys : List A) (y : A) → ¬ ([] ≡ xs ++ y ∷ ys)
not_empty [] ys y h = cc
not_empty (x ∷ xs) ys y h = cc

-- a lexical cause applies where the good tokens end
at_the_end :
    (IsWhole : List Lexeme → Type 0) (IsOneTooMany : List Lexeme → ℕ → Type 0) (ts : List Lexeme) (fault : Option Fault) (k : ℕ) (d : Cause) → order d < 1 →
    Applies IsWhole IsOneTooMany d ts fault k → (k ≡ length ts) × IsSomeAnd fault (λ f. f.cause ≡ d)
at_the_end W T ts fault k cause.BadByte lt h = h
at_the_end W T ts fault k cause.BadText lt h = h
at_the_end W T ts fault k cause.LongText lt h = h
at_the_end W T ts fault k cause.LongName lt h = h
at_the_end W T ts fault k cause.WideNumber lt h = h
at_the_end W T ts fault k cause.Syntax lt h = absurd (omega arith)
at_the_end W T ts fault k cause.TooDeep lt h = absurd (omega arith)
at_the_end W T ts fault k cause.TooLarge lt h = absurd (omega arith)
at_the_end W T ts fault k cause.LongTuple lt h = absurd (omega arith)
at_the_end W T ts fault k cause.LongSet lt h = absurd (omega arith)
at_the_end W T ts fault k (cause.Check c) lt h = absurd h

-- no limit is passed at a first token that opens no bracket
module _ (W : List Lexeme → Type 0) (T : List Lexeme → ℕ → Type 0) (t : Lexeme) (ts : List Lexeme) (closed : opens t ≡ false) (small : ¬ T (t ∷ ts) 0) where
  no_limit : (d : Cause) → ¬ PassesLimit W T d (t ∷ ts) 0
  no_limit cause.TooDeep h = let x = h.opener in cc
  no_limit cause.TooLarge h = small h
  no_limit cause.LongTuple h =
      elim h [
        | inl x ↦ not_empty (x.before ++ l.Mark m.OpenRound ∷ x.parts) [] (l.Mark m.Comma) x.stands
        | inr x ↦ not_empty (x.before ++ l.Mark m.OpenRound ∷ x.parts) [] (l.Mark m.Comma) x.stands
      ]
  no_limit cause.LongSet h = not_empty (h.before ++ l.Mark m.OpenCurly ∷ h.parts) [] (l.Mark m.Comma) h.stands
  no_limit cause.BadByte h = h
  no_limit cause.BadText h = h
  no_limit cause.LongText h = h
  no_limit cause.LongName h = h
  no_limit cause.WideNumber h = h
  no_limit cause.Syntax h = h
  no_limit (cause.Check c) h = h

  -- and no cause applies there, if it goes on
  no_cause : (fault : Option Fault) → Begins W (t ∷ []) → (d : Cause) → ¬ Applies W T d (t ∷ ts) fault 0
  no_cause fault on cause.BadByte h = let e = h.0 in absurd (omega (arith, e))
  no_cause fault on cause.BadText h = let e = h.0 in absurd (omega (arith, e))
  no_cause fault on cause.LongText h = let e = h.0 in absurd (omega (arith, e))
  no_cause fault on cause.LongName h = let e = h.0 in absurd (omega (arith, e))
  no_cause fault on cause.WideNumber h = let e = h.0 in absurd (omega (arith, e))
  no_cause fault on cause.Syntax h = h.1 ((λ lt. on), (λ e. absurd (omega (arith, e))))
  no_cause fault on cause.TooDeep h = no_limit cause.TooDeep h
  no_cause fault on cause.TooLarge h = no_limit cause.TooLarge h
  no_cause fault on cause.LongTuple h = no_limit cause.LongTuple h
  no_cause fault on cause.LongSet h = no_limit cause.LongSet h
  no_cause fault on (cause.Check c) h = h

only_zero : (P : ℕ → Type 0) → P 0 → (j : ℕ) → j < 1 → P j
only_zero P h zero lt = h
only_zero P h (suc j) lt = absurd (omega arith)

no_size : (ts : List Lexeme) → ¬ BeginsExtraToken ts 0
no_size ts h = let full = h.full in absurd (omega (arith, full))

no_item : (ts : List Lexeme) → ¬ IsTooLarge ts 0
no_item ts h = let e = h.counted in absurd (omega (arith, e))

pub no_front : NoFront
no_front = record {
  applies = (omega arith, λ h. let begun : Begins IsSomePred (l.Mark m.CloseRound ∷ []) = h.0 (omega arith) in let run = (pred_came begun.1.1).runs in cc);
  least = λ j lt d h. absurd (omega arith);
  first = λ d lt h. let e = at_the_end IsSomePred BeginsExtraToken (l.Mark m.CloseRound ∷ []) None 0 d lt h in absurd (e.1);
}

minus_begins : Begins IsSomePred (l.Mark m.Minus ∷ [])
minus_begins = (
  l.Number 1 ∷ l.Mark m.Equal ∷ l.Number 1 ∷ [],
  (_, p.both (p.test (p.same {ts = l.Mark m.Minus ∷ l.Number 1 ∷ []} {us = l.Number 1 ∷ []} (operand (o.literal (lit.scalar (lit.negative {n = 1} refl)))) (operand one)))),
)

pub arrow : Arrow
arrow = record {
  applies = (refl, refl);
  least = only_zero _ (no_cause IsSomePred BeginsExtraToken (l.Mark m.Minus) [] refl (no_size _) _ minus_begins);
  first = λ d lt h. absurd (omega arith);
}

header_begins : Begins IsSomeProgram (l.Keyword k.Abc ∷ [])
header_begins = (l.Number 1 ∷ l.Mark m.Semicolon ∷ [], (_, g.headed_1 {ts = []} {us = []} listed.none listed.none))

pub header_of_three : HeaderOfThree
header_of_three = record {
  applies = (omega arith, λ h. let begun : Begins IsSomeProgram (l.Keyword k.Abc ∷ l.Number 3 ∷ []) = h.0 (omega arith) in let run = program_run begun.1.1 in cc);
  least = only_zero _ (no_cause IsSomeProgram IsTooLarge (l.Keyword k.Abc) (l.Number 3 ∷ l.Mark m.Semicolon ∷ []) refl (no_item _) _ header_begins);
  first = λ d lt h. let e = at_the_end IsSomeProgram IsTooLarge (l.Keyword k.Abc ∷ l.Number 3 ∷ l.Mark m.Semicolon ∷ []) None 1 d lt h in absurd (e.1);
}

-- more of its tokens than one are no predicate
no_more : (n : ℕ) (x : t.Pred) → IsFront (l.Keyword k.Tt ∷ l.Keyword k.And ∷ l.Keyword k.Not ∷ []) n x → n ≤ 1
no_more zero x h = omega arith
no_more (suc zero) x h = omega arith
no_more (suc (suc zero)) x h = let c = pred_came h.pred in let run = c.runs in let whole = c.whole in absurd (cc)
no_more (suc (suc (suc zero))) x h = let c = pred_came h.pred in let run = c.runs in let whole = c.whole in absurd (cc)
no_more (suc (suc (suc (suc n)))) x h = let long = h.exists in absurd (omega (arith, long))

pub front_of_one : FrontOfOne
front_of_one = record {
  front = record {
    exists = omega arith;
    pred = p.both (p.test p.always);
    within = only_zero _ (no_limit IsSomePred BeginsExtraToken (l.Keyword k.Tt) (l.Keyword k.And ∷ l.Keyword k.Not ∷ []) refl (no_size _));
  };
  longest = no_more;
}
