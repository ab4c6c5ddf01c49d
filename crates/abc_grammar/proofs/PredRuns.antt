-- A machine that goes over the tokens of a predicate.
use Rattle.std.proofs.Common.{◌≡◌, ℕ, zero, suc, List, [], ◌∷◌, ◌++◌, Option, Some, None, refl, ap, sym, ◌∙◌}
use Rattle.abc_pred.specs.Terms.{Operand, Pred}
use Rattle.abc_pred.specs.Terms as p
use Rattle.abc_grammar.specs.declared.lexemes.Lexeme.{Lexeme}
use Rattle.abc_grammar.specs.declared.lexemes.Lexeme.TheVariants as l
use Rattle.abc_text.specs.declared.words.Mark.TheVariants as m
use Rattle.abc_text.specs.declared.words.Keyword.TheVariants as k
use Rattle.abc_grammar.specs.Operands.{IsOperand}
use Rattle.abc_grammar.specs.Preds.{IsPred, IsBoth, IsTest}
use Rattle.abc_grammar.specs.Preds as g
use Rattle.abc_grammar.proofs.Runs.{run, run_on, run_next, run_end}
use Rattle.abc_grammar.proofs.OperandRuns.{State, start}
use Rattle.abc_grammar.proofs.OperandRuns as operand
use Rattle.abc_grammar.proofs.Embedded.{taken, Came, inside_run, through, behind_came}
use Rattle.abc_grammar.proofs.Inner.{value, Stops, OperandCame, came}

-- what stands to the left of an `or`, and of an `and`
abbrev pub ored : Option Pred → Pred → Pred
ored None b = b
ored (Some a) b = p.Or a b

abbrev pub anded : Option Pred → Pred → Pred
anded None b = b
anded (Some a) b = p.And a b

-- so many times `not`
abbrev pub negated : ℕ → Pred → Pred
negated zero a = a
negated (suc n) a = negated n (p.Not a)

-- what stands to the left of a test
pub record Left : Type 0 where
  pub or : Option Pred
  pub and : Option Pred
  pub nots : ℕ

abbrev pub left : Option Pred → Option Pred → ℕ → Left
left or and nots = record { or = or; and = and; nots = nots }

-- open brackets, each with what stands to its left
pub data Around : Type 0 where
  Outside : Around
  Inside : Left → Around → Around

pub data Relation : Type 0 where
  Same : Relation
  Below : Relation
  Member : Relation

abbrev pub related : Relation → Operand → Operand → Pred
related Same a b = p.Same a b
related Below a b = p.Less a b
related Member a b = p.Member a b

-- A test or the operand on its left comes; the operand on the right of a relation comes; a test has come.
pub data PredState : Type 0 where
  First : State → Left → Around → PredState
  Second : Relation → Operand → State → Left → Around → PredState
  Done : Pred → Left → Around → PredState

-- behind a predicate, behind a conjunction to the right of what is or'ed, behind a test
abbrev pub behind_pred : Pred → Around → Lexeme → Option PredState
behind_pred a around (l.Keyword k.Or) = Some (First start (left (Some a) None 0) around)
behind_pred a (Inside before around) (l.Mark m.CloseSquare) = Some (Done a before around)
behind_pred a _ _ = None

abbrev pub behind_both : Option Pred → Pred → Around → Lexeme → Option PredState
behind_both or a around (l.Keyword k.And) = Some (First start (left or (Some a) 0) around)
behind_both or a around t = behind_pred (ored or a) around t

abbrev pub behind_test : Pred → Left → Around → Lexeme → Option PredState
behind_test a before around t = behind_both before.or (anded before.and (negated before.nots a)) around t

abbrev pub begins : Left → Around → Lexeme → Option PredState
begins before around (l.Keyword k.Tt) = Some (Done p.True before around)
begins before around (l.Keyword k.Ff) = Some (Done p.False before around)
begins before around (l.Keyword k.Not) = Some (First start (left before.or before.and (suc before.nots)) around)
begins before around (l.Mark m.OpenSquare) = Some (First start (left None None 0) (Inside before around))
begins before around _ = None

abbrev pub compared : Left → Around → Lexeme → Operand → Option PredState
compared before around (l.Mark m.Equal) a = Some (Second Same a start before around)
compared before around (l.Mark m.Below) a = Some (Second Below a start before around)
compared before around (l.Keyword k.In) a = Some (Second Member a start before around)
compared before around _ a = None

abbrev pub step : PredState → Lexeme → Option PredState
step (First s before around) t = taken (λ r. First r before around) (compared before around t) (begins before around t) (operand.step s t) (value s)
step (Second r a s before around) t = taken (λ q. Second r a q before around) (λ b. behind_test (related r a b) before around t) None (operand.step s t) (value s)
step (Done a before around) t = behind_test a before around t

-- a test has come, and what stands behind it is taken up
pub record TestStands (ts : List Lexeme) (before : Left) (around : Around) (a : Pred) : Type 0 where
  pub state : PredState
  pub runs : run step (First start before around) ts ≡ Some state
  pub on : (t : Lexeme) → Stops t → step state t ≡ behind_test a before around t

pub record BothStands (ts : List Lexeme) (or : Option Pred) (around : Around) (a : Pred) : Type 0 where
  pub state : PredState
  pub runs : run step (First start (left or None 0) around) ts ≡ Some state
  pub on : (t : Lexeme) → Stops t → step state t ≡ behind_both or a around t

-- a predicate has come: its last conjunction, and what that is or'ed with
pub record PredStands (ts : List Lexeme) (around : Around) (a : Pred) : Type 0 where
  pub state : PredState
  pub or : Option Pred
  pub last : Pred
  pub runs : run step (First start (left None None 0) around) ts ≡ Some state
  pub on : (t : Lexeme) → Stops t → step state t ≡ behind_both or last around t
  pub is : ored or last ≡ a

-- two operands with the sign of a relation between them
related_run :
    {ts us : List Lexeme} {a b : Operand} (relation : Relation) (sign : Lexeme) → IsOperand ts a → IsOperand us b → Stops sign →
    (before : Left) (around : Around) → compared before around sign a ≡ Some (Second relation a start before around) →
    TestStands (ts ++ sign ∷ us) before around (related relation a b)
related_run {ts} {us} {a} {b} relation sign h i stops before around is =
    let y : OperandCame us b = came i in
    record {
      state = Second relation a y.state before around;
      runs =
          through operand.step value Stops start step (λ s. First s before around) (compared before around) (begins before around) (λ s t. refl)
          ts a (came h) sign stops (Second relation a start before around) us (Some (Second relation a y.state before around)) is
          (inside_run operand.step value Stops start step (λ s. Second relation a s before around) (λ t c. behind_test (related relation a c) before around t) (λ t. None) (λ s t. refl) us b y);
      on = behind_came operand.step value Stops start step (λ s. Second relation a s before around) (λ t c. behind_test (related relation a c) before around t) (λ t. None) (λ s t. refl) us b y;
    }

mutual
  pub pred_run : {ts : List Lexeme} {a : Pred} → IsPred ts a → (around : Around) → PredStands ts around a
  pred_run (g.both {ts} {a} h) around =
      let r : BothStands ts None around a = both_run h None around in
      record { state = r.state; or = None; last = a; runs = r.runs; on = r.on; is = refl }
  pred_run (g.or {ts} {us} {a} {b} h i) around =
      let x : PredStands ts around a = pred_run h around in
      let y : BothStands us (Some a) around b = both_run i (Some a) around in
      record {
        state = y.state;
        or = Some a;
        last = b;
        runs = run_on step _ _ _ ts (l.Keyword k.Or ∷ us) x.runs
            (run_next step _ _ _ (l.Keyword k.Or) us (x.on (l.Keyword k.Or) (λ _ _. refl) ∙ ap (λ c. Some (First start (left (Some c) None 0) around)) x.is) y.runs);
        on = y.on;
        is = refl;
      }

  pub both_run : {ts : List Lexeme} {a : Pred} → IsBoth ts a → (or : Option Pred) (around : Around) → BothStands ts or around a
  both_run (g.test {ts} {a} h) or around =
      let r : TestStands ts (left or None 0) around a = test_run h (left or None 0) around in
      record { state = r.state; runs = r.runs; on = r.on }
  both_run (g.and {ts} {us} {a} {b} h i) or around =
      let x : BothStands ts or around a = both_run h or around in
      let y : TestStands us (left or (Some a) 0) around b = test_run i (left or (Some a) 0) around in
      record {
        state = y.state;
        runs = run_on step _ _ _ ts (l.Keyword k.And ∷ us) x.runs (run_next step _ _ _ (l.Keyword k.And) us (x.on (l.Keyword k.And) (λ _ _. refl)) y.runs);
        on = y.on;
      }

  pub test_run : {ts : List Lexeme} {a : Pred} → IsTest ts a → (before : Left) (around : Around) → TestStands ts before around a
  test_run g.always before around = record { state = Done p.True before around; runs = refl; on = λ t e. refl }
  test_run g.never before around = record { state = Done p.False before around; runs = refl; on = λ t e. refl }
  test_run (g.not {ts} {a} h) before around =
      let r : TestStands ts (left before.or before.and (suc before.nots)) around a = test_run h (left before.or before.and (suc before.nots)) around in
      record { state = r.state; runs = r.runs; on = r.on }
  test_run (g.bracketed {ts} {a} h) before around =
      let r : PredStands ts (Inside before around) a = pred_run h (Inside before around) in
      record {
        state = Done a before around;
        runs = run_on step _ _ _ ts (l.Mark m.CloseSquare ∷ []) r.runs
            (run_end step r.state (l.Mark m.CloseSquare) _ (r.on (l.Mark m.CloseSquare) (λ _ _. refl) ∙ ap (λ c. Some (Done c before around)) r.is));
        on = λ t e. refl;
      }
  test_run (g.same h i) before around = related_run Same (l.Mark m.Equal) h i (λ _ _. refl) before around refl
  test_run (g.below h i) before around = related_run Below (l.Mark m.Below) h i (λ _ _. refl) before around refl
  test_run (g.member h i) before around = related_run Member (l.Keyword k.In) h i (λ _ _. refl) before around refl

-- ---- a predicate that ends is put into brackets
abbrev pub bracket : Around
bracket = Inside (left None None 0) Outside

abbrev pub pred_start : PredState
pred_start = First start (left None None 0) bracket

abbrev pub done : Option PredState → Option Pred
done (Some (Done a before around)) = Some a
done _ = None

abbrev pub value_pred : PredState → Option Pred
value_pred s = done (step s (l.Mark m.CloseSquare))

-- no predicate in brackets goes on with this token
pub record StopsPred (t : Lexeme) : Type 0 where
  pub operand : Stops t
  pub pred : (or : Option Pred) (a : Pred) → behind_both or a bracket t ≡ None

abbrev pub PredCame : List Lexeme → Pred → Type 0
PredCame ts a = Came step value_pred StopsPred pred_start ts a

pub pred_came : {ts : List Lexeme} {a : Pred} → IsPred ts a → PredCame ts a
pred_came {ts} {a} h =
    let r : PredStands ts bracket a = pred_run h bracket in
    record {
      state = r.state;
      runs = r.runs;
      whole = ap done (r.on (l.Mark m.CloseSquare) (λ _ _. refl)) ∙ ap Some r.is;
      stops = λ t e. r.on t e.operand ∙ e.pred r.or r.last;
    }

-- The tokens of a predicate are in one way a predicate.
pub one_pred : {ts : List Lexeme} {a b : Pred} → IsPred ts a → IsPred ts b → a ≡ b
one_pred {ts} {a} {b} h i =
    let around : Around = Inside (left None None 0) Outside in
    let x : PredStands ts around a = pred_run h around in
    let y : PredStands ts around b = pred_run i around in
    let s : Some x.state ≡ Some y.state = sym x.runs ∙ y.runs in
    let c = x.on (l.Mark m.CloseSquare) (λ _ _. refl) in
    let d = y.on (l.Mark m.CloseSquare) (λ _ _. refl) in
    let e = x.is in
    let f = y.is in
    cc
