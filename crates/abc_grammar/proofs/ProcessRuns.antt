-- A machine that goes over the tokens of a process.
use Rattle.std.proofs.Common.{◌≡◌, zero, List, [], ◌∷◌, ◌++◌, Option, Some, None, refl, ap, sym, ◌∙◌, append_assoc}
use Rattle.abc_pred.specs.declared.names.Name.{Name}
use Rattle.abc_pred.specs.Terms.{Expr, Pred}
use Rattle.abc_term.specs.Processes.{Process, Update}
use Rattle.abc_term.specs.Processes as P
use Rattle.abc_grammar.specs.declared.lexemes.Lexeme.{Lexeme}
use Rattle.abc_grammar.specs.declared.lexemes.Lexeme.TheVariants as l
use Rattle.abc_text.specs.declared.words.Mark.TheVariants as m
use Rattle.abc_text.specs.declared.words.Keyword.TheVariants as k
use Rattle.abc_grammar.specs.Listed.{AreListed, MayBeListed, AreRepeated, IsVariable}
use Rattle.abc_grammar.specs.Listed as listed
use Rattle.abc_grammar.specs.Exprs.{IsExpr}
use Rattle.abc_grammar.specs.Preds.{IsPred}
use Rattle.abc_grammar.specs.Processes.{IsUpdate, IsProcess, IsChoice, IsPrefix, IsAfter}
use Rattle.abc_grammar.specs.Processes as g
use Rattle.abc_grammar.proofs.Runs.{run, run_on}
use Rattle.abc_grammar.proofs.Embedded.{Came, taken, through}
use Rattle.abc_grammar.proofs.OperandRuns.{start}
use Rattle.abc_grammar.proofs.Inner.{Stops}
use Rattle.abc_grammar.proofs.ExprRuns.{ExprState, In, Outside, value_expr, expr_came}
use Rattle.abc_grammar.proofs.ExprRuns as expr
use Rattle.abc_grammar.proofs.PredRuns.{PredState, pred_start, value_pred, StopsPred, pred_came}
use Rattle.abc_grammar.proofs.PredRuns as pred

-- what stands before a prefix: a guard, or an action and its updates
pub data Action : Type 0 where
  Says : List Expr → Pred → Action
  Hears : Pred → List Name → Action

pub data Head : Type 0 where
  Guard : Pred → Head
  Acts : Action → List Update → Head

abbrev pub acted : Action → List Update → Process → Process
acted (Says es p) us A = P.Output es p us A
acted (Hears p xs) us A = P.Input p xs us A

abbrev pub behind_head : Head → Process → Process
behind_head (Guard p) A = P.When p A
behind_head (Acts x us) A = acted x us A

-- the nearest first
abbrev pub headed : List Head → Process → Process
headed [] A = A
headed (h ∷ hs) A = headed hs (behind_head h A)

abbrev pub updated : List Head → Update → List Head
updated (Acts x us ∷ hs) u = Acts x (us ++ u ∷ []) ∷ hs
updated (Guard p ∷ hs) u = Guard p ∷ hs
updated [] u = []

abbrev pub parred : Option Process → Process → Process
parred None B = B
parred (Some A) B = P.Par A B

abbrev pub chosen : Option Process → Process → Process
chosen None B = B
chosen (Some A) B = P.Choice A B

-- what stands to the left of a prefix
pub record Left : Type 0 where
  pub par : Option Process
  pub choice : Option Process
  pub heads : List Head

abbrev pub left : Option Process → Option Process → List Head → Left
left par choice heads = record { par = par; choice = choice; heads = heads }

pub data Around : Type 0 where
  Top : Around
  Inside : Left → Around → Around

-- With what stands to the left and the open brackets: a prefix comes, or an update; a prefix has come, but for its
-- heads; and the places within a prefix.
pub data Step : Type 0 where
  Want : Step
  Done : Process → Step
  WhenBegins : Step
  WhenPred : PredState → Step
  Tuple : List Expr → ExprState → Step
  SaysAt : List Expr → Step
  SaysBegins : List Expr → Step
  SaysPred : List Expr → PredState → Step
  Dot : Action → Step
  HearsBegins : Step
  HearsPred : PredState → Step
  HearsList : Pred → Step
  Vars : Pred → List Name → Step
  VarCame : Pred → List Name → Step
  UpdateName : Step
  UpdateBecomes : Name → Step
  UpdateExpr : Name → ExprState → Step

pub record ProcessState : Type 0 where
  pub at : Step
  pub before : Left
  pub around : Around

abbrev pub state : Step → Left → Around → ProcessState
state at before around = record { at = at; before = before; around = around }

abbrev pub fresh : Left
fresh = left None None []

abbrev pub expr_start : ExprState
expr_start = In start Outside

-- ---- steps
abbrev pub behind_process : Process → Around → Lexeme → Option ProcessState
behind_process A around (l.Mark m.Bar) = Some (state Want (left (Some A) None []) around)
behind_process A (Inside before around) (l.Mark m.CloseCurly) = Some (state (Done A) before around)
behind_process A _ _ = None

abbrev pub behind_choice : Option Process → Process → Around → Lexeme → Option ProcessState
behind_choice par A around (l.Mark m.Plus) = Some (state Want (left par (Some A) []) around)
behind_choice par A around t = behind_process (parred par A) around t

abbrev pub behind_prefix : Process → Left → Around → Lexeme → Option ProcessState
behind_prefix A before around t = behind_choice before.par (chosen before.choice (headed before.heads A)) around t

abbrev pub with_head : Head → Left → Left
with_head h before = left before.par before.choice (h ∷ before.heads)

abbrev pub with_update : Update → Left → Left
with_update u before = left before.par before.choice (updated before.heads u)

abbrev pub wanted : Left → Around → Lexeme → Option ProcessState
wanted before around (l.Number zero) = Some (state (Done P.Nil) before around)
wanted before around (l.Name c) = Some (state (Done (P.Call c)) before around)
wanted before around (l.Mark m.OpenCurly) = Some (state Want fresh (Inside before around))
wanted before around (l.Keyword k.When) = Some (state WhenBegins before around)
wanted before around (l.Mark m.OpenRound) = Some (state (Tuple [] expr_start) before around)
wanted before around (l.Mark m.Question) = Some (state HearsBegins before around)
wanted before around (l.Mark m.OpenSquare) = Some (state UpdateName before around)
wanted before around _ = None

-- one token, and then this
abbrev pub round_open : Step → Left → Around → Lexeme → Option ProcessState
round_open at before around (l.Mark m.OpenRound) = Some (state at before around)
round_open at before around _ = None

abbrev pub at_sign : Step → Left → Around → Lexeme → Option ProcessState
at_sign at before around (l.Mark m.At) = Some (state at before around)
at_sign at before around _ = None

abbrev pub dot : Action → Left → Around → Lexeme → Option ProcessState
dot x before around (l.Mark m.Dot) = Some (state Want (with_head (Acts x []) before) around)
dot x before around _ = None

abbrev pub update_name : Left → Around → Lexeme → Option ProcessState
update_name before around (l.Name a) = Some (state (UpdateBecomes a) before around)
update_name before around _ = None

abbrev pub update_becomes : Name → Left → Around → Lexeme → Option ProcessState
update_becomes a before around (l.Mark m.Becomes) = Some (state (UpdateExpr a expr_start) before around)
update_becomes a before around _ = None

abbrev pub behind_update : Name → Left → Around → Lexeme → Expr → Option ProcessState
behind_update a before around (l.Mark m.CloseSquare) e = Some (state Want (with_update (a, e) before) around)
behind_update a before around _ e = None

abbrev pub behind_guard : Left → Around → Lexeme → Pred → Option ProcessState
behind_guard before around (l.Mark m.CloseRound) p = Some (state Want (with_head (Guard p) before) around)
behind_guard before around _ p = None

abbrev pub behind_says : List Expr → Left → Around → Lexeme → Pred → Option ProcessState
behind_says es before around (l.Mark m.CloseRound) p = Some (state (Dot (Says es p)) before around)
behind_says es before around _ p = None

abbrev pub behind_hears : Left → Around → Lexeme → Pred → Option ProcessState
behind_hears before around (l.Mark m.CloseRound) p = Some (state (HearsList p) before around)
behind_hears before around _ p = None

abbrev pub behind_exprs : Left → Around → List Expr → Lexeme → Option ProcessState
behind_exprs before around es (l.Mark m.Comma) = Some (state (Tuple es expr_start) before around)
behind_exprs before around es (l.Mark m.CloseRound) = Some (state (SaysAt es) before around)
behind_exprs before around es _ = None

abbrev pub behind_expr : List Expr → Left → Around → Lexeme → Expr → Option ProcessState
behind_expr es before around t e = behind_exprs before around (es ++ e ∷ []) t

abbrev pub vars : Pred → List Name → Left → Around → Lexeme → Option ProcessState
vars p xs before around (l.Variable x) = Some (state (VarCame p (xs ++ x ∷ [])) before around)
vars p xs before around (l.Mark m.CloseRound) = Some (state (Dot (Hears p xs)) before around)
vars p xs before around _ = None

abbrev pub var_came : Pred → List Name → Left → Around → Lexeme → Option ProcessState
var_came p xs before around (l.Mark m.Comma) = Some (state (Vars p xs) before around)
var_came p xs before around (l.Mark m.CloseRound) = Some (state (Dot (Hears p xs)) before around)
var_came p xs before around _ = None

abbrev pub step_at : Step → Left → Around → Lexeme → Option ProcessState
step_at Want before around t = wanted before around t
step_at (Done A) before around t = behind_prefix A before around t
step_at WhenBegins before around t = round_open (WhenPred pred_start) before around t
step_at (WhenPred s) before around t = taken (λ r. state (WhenPred r) before around) (behind_guard before around t) None (pred.step s t) (value_pred s)
step_at (Tuple es s) before around t = taken (λ r. state (Tuple es r) before around) (behind_expr es before around t) (behind_exprs before around es t) (expr.step s t) (value_expr s)
step_at (SaysAt es) before around t = at_sign (SaysBegins es) before around t
step_at (SaysBegins es) before around t = round_open (SaysPred es pred_start) before around t
step_at (SaysPred es s) before around t = taken (λ r. state (SaysPred es r) before around) (behind_says es before around t) None (pred.step s t) (value_pred s)
step_at (Dot x) before around t = dot x before around t
step_at HearsBegins before around t = round_open (HearsPred pred_start) before around t
step_at (HearsPred s) before around t = taken (λ r. state (HearsPred r) before around) (behind_hears before around t) None (pred.step s t) (value_pred s)
step_at (HearsList p) before around t = round_open (Vars p []) before around t
step_at (Vars p xs) before around t = vars p xs before around t
step_at (VarCame p xs) before around t = var_came p xs before around t
step_at UpdateName before around t = update_name before around t
step_at (UpdateBecomes a) before around t = update_becomes a before around t
step_at (UpdateExpr a s) before around t = taken (λ r. state (UpdateExpr a r) before around) (behind_update a before around t) None (expr.step s t) (value_expr s)

abbrev pub step : ProcessState → Lexeme → Option ProcessState
step s t = step_at s.at s.before s.around t

-- ---- parts
round_stops : StopsPred (l.Mark m.CloseRound)
round_stops = record { operand = λ _ _. refl; pred = λ or a. refl }

-- a predicate, a bracket, and what follows
when_run :
    {ts : List Lexeme} {p : Pred} (us : List Lexeme) (z : Option ProcessState) (before : Left) (around : Around) → IsPred ts p →
    run step (state Want (with_head (Guard p) before) around) us ≡ z →
    run step (state (WhenPred pred_start) before around) (ts ++ l.Mark m.CloseRound ∷ us) ≡ z
when_run {ts} {p} us z before around h k =
    through pred.step value_pred StopsPred pred_start step (λ s. state (WhenPred s) before around) (behind_guard before around) (λ t. None) (λ s t. refl)
    ts p (pred_came h) (l.Mark m.CloseRound) round_stops (state Want (with_head (Guard p) before) around) us z refl k

says_run :
    {ts : List Lexeme} {p : Pred} (us : List Lexeme) (z : Option ProcessState) (es : List Expr) (before : Left) (around : Around) → IsPred ts p →
    run step (state (Dot (Says es p)) before around) us ≡ z →
    run step (state (SaysPred es pred_start) before around) (ts ++ l.Mark m.CloseRound ∷ us) ≡ z
says_run {ts} {p} us z es before around h k =
    through pred.step value_pred StopsPred pred_start step (λ s. state (SaysPred es s) before around) (behind_says es before around) (λ t. None) (λ s t. refl)
    ts p (pred_came h) (l.Mark m.CloseRound) round_stops (state (Dot (Says es p)) before around) us z refl k

hears_run :
    {ts : List Lexeme} {p : Pred} (us : List Lexeme) (z : Option ProcessState) (before : Left) (around : Around) → IsPred ts p →
    run step (state (HearsList p) before around) us ≡ z →
    run step (state (HearsPred pred_start) before around) (ts ++ l.Mark m.CloseRound ∷ us) ≡ z
hears_run {ts} {p} us z before around h k =
    through pred.step value_pred StopsPred pred_start step (λ s. state (HearsPred s) before around) (behind_hears before around) (λ t. None) (λ s t. refl)
    ts p (pred_came h) (l.Mark m.CloseRound) round_stops (state (HearsList p) before around) us z refl k

-- one expression of a tuple, and a token behind it
expr_run :
    {ts : List Lexeme} {e : Expr} (es : List Expr) (before : Left) (around : Around) → IsExpr ts e → (t : Lexeme) → Stops t →
    (y : ProcessState) (us : List Lexeme) (z : Option ProcessState) → behind_exprs before around (es ++ e ∷ []) t ≡ Some y → run step y us ≡ z →
    run step (state (Tuple es expr_start) before around) (ts ++ t ∷ us) ≡ z
expr_run {ts} {e} es before around h t stops y us z c k =
    through expr.step value_expr Stops expr_start step (λ s. state (Tuple es s) before around) (behind_expr es before around) (behind_exprs before around es) (λ s t. refl)
    ts e (expr_came h) t stops y us z c k

exprs_run :
    {ts : List Lexeme} {es : List Expr} (before : Left) (around : Around) → AreListed IsExpr ts es → (t : Lexeme) → Stops t →
    (y : ProcessState) (us : List Lexeme) (z : Option ProcessState) → behind_exprs before around es t ≡ Some y → run step y us ≡ z →
    run step (state (Tuple [] expr_start) before around) (ts ++ t ∷ us) ≡ z
exprs_run before around (listed.one h) t stops y us z c k = expr_run [] before around h t stops y us z c k
exprs_run before around (listed.more {ts} {us = ws} {items} {a} first h) t stops y us z c k =
    ap (run step (state (Tuple [] expr_start) before around)) (append_assoc ts (l.Mark m.Comma ∷ ws) (t ∷ us))
    ∙ exprs_run before around first (l.Mark m.Comma) (λ _ _. refl) (state (Tuple items expr_start) before around) (ws ++ t ∷ us) z refl
    (expr_run items before around h t stops y us z c k)

tuple_run :
    {ts : List Lexeme} {es : List Expr} (us : List Lexeme) (z : Option ProcessState) (before : Left) (around : Around) → MayBeListed IsExpr ts es →
    run step (state (SaysAt es) before around) us ≡ z →
    run step (state (Tuple [] expr_start) before around) (ts ++ l.Mark m.CloseRound ∷ us) ≡ z
tuple_run us z before around listed.none k = k
tuple_run {es = es} us z before around (listed.some h) k =
    exprs_run before around h (l.Mark m.CloseRound) (λ _ _. refl) (state (SaysAt es) before around) us z refl k

vars_run :
    {ts : List Lexeme} {xs : List Name} (p : Pred) (before : Left) (around : Around) → AreListed IsVariable ts xs →
    run step (state (Vars p []) before around) ts ≡ Some (state (VarCame p xs) before around)
vars_run p before around (listed.one listed.variable) = refl
vars_run p before around (listed.more {ts} {us} {items} first listed.variable) =
    run_on step (state (Vars p []) before around) (state (VarCame p items) before around) _ ts (l.Mark m.Comma ∷ us) (vars_run p before around first) refl

list_run :
    {ts : List Lexeme} {xs : List Name} (us : List Lexeme) (z : Option ProcessState) (p : Pred) (before : Left) (around : Around) → MayBeListed IsVariable ts xs →
    run step (state (Dot (Hears p xs)) before around) us ≡ z →
    run step (state (Vars p []) before around) (ts ++ l.Mark m.CloseRound ∷ us) ≡ z
list_run us z p before around listed.none k = k
list_run {xs = xs} us z p before around (listed.some {ts} h) k =
    run_on step (state (Vars p []) before around) (state (VarCame p xs) before around) z ts (l.Mark m.CloseRound ∷ us) (vars_run p before around h) k

update_run :
    {ts : List Lexeme} {u : Update} (before : Left) (around : Around) → IsUpdate ts u →
    run step (state Want before around) ts ≡ Some (state Want (with_update u before) around)
update_run before around (g.update {a} {ts} {e} h) =
    through expr.step value_expr Stops expr_start step (λ s. state (UpdateExpr a s) before around) (behind_update a before around) (λ t. None) (λ s t. refl)
    ts e (expr_came h) (l.Mark m.CloseSquare) (λ _ _. refl) (state Want (with_update (a, e) before) around) [] (Some (state Want (with_update (a, e) before) around)) refl refl

updates_run :
    {ts : List Lexeme} {us : List Update} (par choice : Option Process) (x : Action) (hs : List Head) (around : Around) → AreRepeated IsUpdate ts us →
    run step (state Want (left par choice (Acts x [] ∷ hs)) around) ts ≡ Some (state Want (left par choice (Acts x us ∷ hs)) around)
updates_run par choice x hs around listed.none = refl
updates_run par choice x hs around (listed.more {ts} {us} {items} first h) =
    run_on step _ (state Want (left par choice (Acts x items ∷ hs)) around) _ ts us (updates_run par choice x hs around first) (update_run (left par choice (Acts x items ∷ hs)) around h)

-- ---- where the machine stands
-- a prefix has come, with the heads that stand before it yet
pub record PrefixStands (ts : List Lexeme) (par choice : Option Process) (hs : List Head) (around : Around) (A : Process) : Type 0 where
  pub last : Process
  pub heads : List Head
  pub runs : run step (state Want (left par choice hs) around) ts ≡ Some (state (Done last) (left par choice heads) around)
  pub is : headed heads last ≡ headed hs A

pub record ChoiceStands (ts : List Lexeme) (par : Option Process) (around : Around) (A : Process) : Type 0 where
  pub last : Process
  pub heads : List Head
  pub choice : Option Process
  pub runs : run step (state Want (left par None []) around) ts ≡ Some (state (Done last) (left par choice heads) around)
  pub is : chosen choice (headed heads last) ≡ A

pub record ProcessStands (ts : List Lexeme) (around : Around) (A : Process) : Type 0 where
  pub last : Process
  pub heads : List Head
  pub choice : Option Process
  pub par : Option Process
  pub runs : run step (state Want fresh around) ts ≡ Some (state (Done last) (left par choice heads) around)
  pub is : parred par (chosen choice (headed heads last)) ≡ A

pub record AfterStands (ts : List Lexeme) (par choice : Option Process) (x : Action) (hs : List Head) (around : Around) (us : List Update) (A : Process) : Type 0 where
  pub last : Process
  pub heads : List Head
  pub runs : run step (state Want (left par choice (Acts x [] ∷ hs)) around) ts ≡ Some (state (Done last) (left par choice heads) around)
  pub is : headed heads last ≡ headed hs (acted x us A)

-- the process that has come
abbrev pub process_at : Step → Left → Around → Option Process
process_at (Done A) before Top = Some (parred before.par (chosen before.choice (headed before.heads A)))
process_at _ before _ = None

abbrev pub value_process : ProcessState → Option Process
value_process s = process_at s.at s.before s.around

-- no process goes on with this token
abbrev pub StopsProcess : Lexeme → Type 0
StopsProcess t = (par : Option Process) (A : Process) → behind_choice par A Top t ≡ None

abbrev pub ProcessCame : List Lexeme → Process → Type 0
ProcessCame ts A = Came step value_process StopsProcess (state Want fresh Top) ts A

mutual
  pub process_run : {ts : List Lexeme} {A : Process} → IsProcess ts A → (around : Around) → ProcessStands ts around A
  process_run (g.choice {ts} {A} h) around =
      let r : ChoiceStands ts None around A = choice_run h None around in
      record { last = r.last; heads = r.heads; choice = r.choice; par = None; runs = r.runs; is = r.is }
  process_run (g.par {ts} {us} {A} {B} h i) around =
      let x : ProcessStands ts around A = process_run h around in
      let y : ChoiceStands us (Some A) around B = choice_run i (Some A) around in
      record {
        last = y.last;
        heads = y.heads;
        choice = y.choice;
        par = Some A;
        runs = run_on step _ (state (Done x.last) (left x.par x.choice x.heads) around) _ ts (l.Mark m.Bar ∷ us) x.runs
            (ap (λ C. run step (state Want (left (Some C) None []) around) us) x.is ∙ y.runs);
        is = ap (P.Par A) y.is;
      }

  pub choice_run : {ts : List Lexeme} {A : Process} → IsChoice ts A → (par : Option Process) (around : Around) → ChoiceStands ts par around A
  choice_run (g.prefix {ts} {A} h) par around =
      let r : PrefixStands ts par None [] around A = prefix_run h par None [] around in
      record { last = r.last; heads = r.heads; choice = None; runs = r.runs; is = r.is }
  choice_run (g.plus {ts} {us} {A} {B} h i) par around =
      let x : ChoiceStands ts par around A = choice_run h par around in
      let y : PrefixStands us par (Some A) [] around B = prefix_run i par (Some A) [] around in
      record {
        last = y.last;
        heads = y.heads;
        choice = Some A;
        runs = run_on step _ (state (Done x.last) (left par x.choice x.heads) around) _ ts (l.Mark m.Plus ∷ us) x.runs
            (ap (λ C. run step (state Want (left par (Some C) []) around) us) x.is ∙ y.runs);
        is = ap (P.Choice A) y.is;
      }

  pub prefix_run :
      {ts : List Lexeme} {A : Process} → IsPrefix ts A → (par choice : Option Process) (hs : List Head) (around : Around) →
      PrefixStands ts par choice hs around A
  prefix_run g.nil par choice hs around = record { last = P.Nil; heads = hs; runs = refl; is = refl }
  prefix_run (g.call {c}) par choice hs around = record { last = P.Call c; heads = hs; runs = refl; is = refl }
  prefix_run (g.braced {ts} {A} h) par choice hs around =
      let x : ProcessStands ts (Inside (left par choice hs) around) A = process_run h (Inside (left par choice hs) around) in
      record {
        last = A;
        heads = hs;
        runs = run_on step _ (state (Done x.last) (left x.par x.choice x.heads) (Inside (left par choice hs) around)) _ ts (l.Mark m.CloseCurly ∷ []) x.runs
            (ap (λ C. Some (state (Done C) (left par choice hs) around)) x.is);
        is = refl;
      }
  prefix_run (g.when {ts} {us} {p} {A} h i) par choice hs around =
      let x : PrefixStands us par choice (Guard p ∷ hs) around A = prefix_run i par choice (Guard p ∷ hs) around in
      record { last = x.last; heads = x.heads; runs = when_run us _ (left par choice hs) around h x.runs; is = x.is }
  prefix_run (g.output {ts} {us} {vs} {es} {p} {updates} {A} h i j) par choice hs around =
      let x : AfterStands vs par choice (Says es p) hs around updates A = after_run j par choice (Says es p) hs around in
      record {
        last = x.last;
        heads = x.heads;
        runs = ap (run step (state (Tuple [] expr_start) (left par choice hs) around))
            (append_assoc ts (l.Mark m.CloseRound ∷ l.Mark m.At ∷ l.Mark m.OpenRound ∷ us) (l.Mark m.CloseRound ∷ l.Mark m.Dot ∷ vs))
            ∙ tuple_run (l.Mark m.At ∷ l.Mark m.OpenRound ∷ (us ++ l.Mark m.CloseRound ∷ l.Mark m.Dot ∷ vs)) _ (left par choice hs) around h
            (says_run (l.Mark m.Dot ∷ vs) _ es (left par choice hs) around i x.runs);
        is = x.is;
      }
  prefix_run (g.input {ts} {us} {vs} {p} {xs} {updates} {A} h i j) par choice hs around =
      let x : AfterStands vs par choice (Hears p xs) hs around updates A = after_run j par choice (Hears p xs) hs around in
      record {
        last = x.last;
        heads = x.heads;
        runs = ap (run step (state (HearsPred pred_start) (left par choice hs) around))
            (append_assoc ts (l.Mark m.CloseRound ∷ l.Mark m.OpenRound ∷ us) (l.Mark m.CloseRound ∷ l.Mark m.Dot ∷ vs))
            ∙ hears_run (l.Mark m.OpenRound ∷ (us ++ l.Mark m.CloseRound ∷ l.Mark m.Dot ∷ vs)) _ (left par choice hs) around h
            (list_run (l.Mark m.Dot ∷ vs) _ p (left par choice hs) around i x.runs);
        is = x.is;
      }

  pub after_run :
      {ts : List Lexeme} {us : List Update} {A : Process} → IsAfter ts us A → (par choice : Option Process) (x : Action) (hs : List Head) (around : Around) →
      AfterStands ts par choice x hs around us A
  after_run (g.after {ts} {us} {updates} {A} h i) par choice x hs around =
      let r : PrefixStands us par choice (Acts x updates ∷ hs) around A = prefix_run i par choice (Acts x updates ∷ hs) around in
      record {
        last = r.last;
        heads = r.heads;
        runs = run_on step _ (state Want (left par choice (Acts x updates ∷ hs)) around) _ ts us (updates_run par choice x hs around h) r.runs;
        is = r.is;
      }

pub process_came : {ts : List Lexeme} {A : Process} → IsProcess ts A → ProcessCame ts A
process_came {ts} {A} h =
    let r : ProcessStands ts Top A = process_run h Top in
    record {
      state = state (Done r.last) (left r.par r.choice r.heads) Top;
      runs = r.runs;
      whole = ap Some r.is;
      stops = λ t e. e r.par (chosen r.choice (headed r.heads r.last));
    }

-- The tokens of a process are in one way a process.
pub one_process : {ts : List Lexeme} {A B : Process} → IsProcess ts A → IsProcess ts B → A ≡ B
one_process {ts} {A} {B} h i =
    let x : ProcessCame ts A = process_came h in
    let y : ProcessCame ts B = process_came i in
    let s : Some x.state ≡ Some y.state = sym x.runs ∙ y.runs in
    let p = x.whole in
    let q = y.whole in
    cc
