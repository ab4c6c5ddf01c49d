-- A machine that goes over the tokens of an expression.
use Rattle.std.proofs.Common.{◌≡◌, List, [], ◌∷◌, ◌++◌, Option, Some, None, refl, ap, sym, ◌∙◌}
use Rattle.abc_pred.specs.Terms.{Operand, Expr}
use Rattle.abc_pred.specs.Terms as e
use Rattle.abc_grammar.specs.declared.lexemes.Lexeme.{Lexeme}
use Rattle.abc_grammar.specs.declared.lexemes.Lexeme.TheVariants as l
use Rattle.abc_text.specs.declared.words.Mark.TheVariants as m
use Rattle.abc_text.specs.declared.words.Keyword.TheVariants as k
use Rattle.abc_grammar.specs.Listed.{AreListed, MayBeListed}
use Rattle.abc_grammar.specs.Listed as listed
use Rattle.abc_grammar.specs.Operands.{IsOperand}
use Rattle.abc_grammar.specs.Exprs.{IsExpr}
use Rattle.abc_grammar.specs.Exprs as g
use Rattle.abc_grammar.proofs.Runs.{run, run_on, run_next, run_end}
use Rattle.abc_grammar.proofs.OperandRuns.{State, start}
use Rattle.abc_grammar.proofs.OperandRuns as operand
use Rattle.abc_grammar.proofs.Embedded.{taken, Came, inside_run, behind_came}
use Rattle.abc_grammar.proofs.Inner.{value, Stops, OperandCame, came}

-- the expressions that are open around one
pub data Around : Type 0 where
  Outside : Around
  UnionLeft : Around → Around
  UnionRight : Expr → Around → Around
  WithoutLeft : Around → Around
  WithoutRight : Expr → Around → Around

-- An expression comes; a bracket comes; an operand of a set comes, behind these; an expression has come.
pub data ExprState : Type 0 where
  In : State → Around → ExprState
  SetBegins : Around → ExprState
  UnionBegins : Around → ExprState
  WithoutBegins : Around → ExprState
  Items : List Operand → State → Around → ExprState
  Done : Expr → Around → ExprState

abbrev pub behind : Expr → Around → Lexeme → Option ExprState
behind a (UnionLeft around) (l.Mark m.Comma) = Some (In start (UnionRight a around))
behind a (UnionRight b around) (l.Mark m.CloseRound) = Some (Done (e.Union b a) around)
behind a (WithoutLeft around) (l.Mark m.Comma) = Some (In start (WithoutRight a around))
behind a (WithoutRight b around) (l.Mark m.CloseRound) = Some (Done (e.Without b a) around)
behind a _ _ = None

abbrev pub begins : Around → Lexeme → Option ExprState
begins around (l.Keyword k.Set) = Some (SetBegins around)
begins around (l.Keyword k.Union) = Some (UnionBegins around)
begins around (l.Keyword k.Without) = Some (WithoutBegins around)
begins around _ = None

abbrev pub in_set : Around → Lexeme → Option ExprState
in_set around (l.Mark m.OpenRound) = Some (Items [] start around)
in_set around _ = None

abbrev pub in_union : Around → Lexeme → Option ExprState
in_union around (l.Mark m.OpenRound) = Some (In start (UnionLeft around))
in_union around _ = None

abbrev pub in_without : Around → Lexeme → Option ExprState
in_without around (l.Mark m.OpenRound) = Some (In start (WithoutLeft around))
in_without around _ = None

abbrev pub behind_items : Around → List Operand → Lexeme → Option ExprState
behind_items around items (l.Mark m.Comma) = Some (Items items start around)
behind_items around items (l.Mark m.CloseRound) = Some (Done (e.SetOf items) around)
behind_items around items _ = None

abbrev pub behind_item : List Operand → Around → Lexeme → Operand → Option ExprState
behind_item items around t a = behind_items around (items ++ a ∷ []) t

abbrev pub step : ExprState → Lexeme → Option ExprState
step (In s around) t = taken (λ r. In r around) (λ a. behind (e.Plain a) around t) (begins around t) (operand.step s t) (value s)
step (SetBegins around) t = in_set around t
step (UnionBegins around) t = in_union around t
step (WithoutBegins around) t = in_without around t
step (Items items s around) t = taken (λ r. Items items r around) (behind_item items around t) (behind_items around items t) (operand.step s t) (value s)
step (Done a around) t = behind a around t

-- the expression that has come, where none is open
abbrev pub plain : Option Operand → Option Expr
plain None = None
plain (Some a) = Some (e.Plain a)

abbrev pub value_expr : ExprState → Option Expr
value_expr (In s Outside) = plain (value s)
value_expr (Done a Outside) = Some a
value_expr _ = None

abbrev pub outermost : Expr → Around → Option Expr
outermost a Outside = Some a
outermost a _ = None

-- an expression has come, and what stands behind it is taken up
pub record Stands (ts : List Lexeme) (around : Around) (a : Expr) : Type 0 where
  pub state : ExprState
  pub runs : run step (In start around) ts ≡ Some state
  pub on : (t : Lexeme) → Stops t → step state t ≡ behind a around t
  pub whole : value_expr state ≡ outermost a around

-- the operands of a set have come, and what stands behind them is taken up
pub record ItemsStand (ts : List Lexeme) (around : Around) (items : List Operand) : Type 0 where
  pub state : ExprState
  pub runs : run step (Items [] start around) ts ≡ Some state
  pub on : (t : Lexeme) → Stops t → step state t ≡ behind_items around items t

item_run : {ts : List Lexeme} {a : Operand} → (c : OperandCame ts a) → (items : List Operand) (around : Around) → run step (Items items start around) ts ≡ Some (Items items c.state around)
item_run {ts} {a} c items around =
    inside_run operand.step value Stops start step (λ s. Items items s around) (behind_item items around) (behind_items around items) (λ s t. refl) ts a c

item_on : {ts : List Lexeme} {a : Operand} → (c : OperandCame ts a) → (items : List Operand) (around : Around) (t : Lexeme) → Stops t → step (Items items c.state around) t ≡ behind_item items around t a
item_on {ts} {a} c items around t stops =
    behind_came operand.step value Stops start step (λ s. Items items s around) (behind_item items around) (behind_items around items) (λ s t. refl) ts a c t stops

items_run : {ts : List Lexeme} {items : List Operand} → AreListed IsOperand ts items → (around : Around) → ItemsStand ts around items
items_run (listed.one {ts} {a} h) around =
    let c : OperandCame ts a = came h in
    record { state = Items [] c.state around; runs = item_run c [] around; on = item_on c [] around }
items_run (listed.more {ts} {us} {items} {a} before h) around =
    let r : ItemsStand ts around items = items_run before around in
    let c : OperandCame us a = came h in
    record {
      state = Items items c.state around;
      runs = run_on step _ _ _ ts (l.Mark m.Comma ∷ us) r.runs (run_next step _ _ _ (l.Mark m.Comma) us (r.on (l.Mark m.Comma) (λ _ _. refl)) (item_run c items around));
      on = item_on c items around;
    }

set_run :
    {ts : List Lexeme} {items : List Operand} → MayBeListed IsOperand ts items → (around : Around) →
    run step (Items [] start around) (ts ++ l.Mark m.CloseRound ∷ []) ≡ Some (Done (e.SetOf items) around)
set_run listed.none around = refl
set_run (listed.some {ts} {items} h) around =
    let r : ItemsStand ts around items = items_run h around in
    run_on step _ _ _ ts (l.Mark m.CloseRound ∷ []) r.runs (run_next step _ _ _ (l.Mark m.CloseRound) [] (r.on (l.Mark m.CloseRound) (λ _ _. refl)) refl)

-- two expressions parted by a comma, and a bracket behind them
both_run :
    {a b : Expr} {left right : Around} {end : Option ExprState} (ts us : List Lexeme) → (x : Stands ts left a) → (y : Stands us right b) →
    behind a left (l.Mark m.Comma) ≡ Some (In start right) → behind b right (l.Mark m.CloseRound) ≡ end →
    run step (In start left) (ts ++ l.Mark m.Comma ∷ us ++ l.Mark m.CloseRound ∷ []) ≡ end
both_run ts us x y comma close =
    run_on step _ _ _ (ts ++ l.Mark m.Comma ∷ us) (l.Mark m.CloseRound ∷ [])
    (run_on step _ _ _ ts (l.Mark m.Comma ∷ us) x.runs
    (run_next step _ _ _ (l.Mark m.Comma) us (x.on (l.Mark m.Comma) (λ _ _. refl) ∙ comma) y.runs))
    (run_end step y.state (l.Mark m.CloseRound) _ (y.on (l.Mark m.CloseRound) (λ _ _. refl) ∙ close))

plain_whole : (s : State) (a : Operand) (around : Around) → value s ≡ Some a → value_expr (In s around) ≡ outermost (e.Plain a) around
plain_whole s a Outside h = ap plain h
plain_whole s a (UnionLeft around) h = refl
plain_whole s a (UnionRight b around) h = refl
plain_whole s a (WithoutLeft around) h = refl
plain_whole s a (WithoutRight b around) h = refl

done_whole : (a : Expr) (around : Around) → value_expr (Done a around) ≡ outermost a around
done_whole a Outside = refl
done_whole a (UnionLeft around) = refl
done_whole a (UnionRight b around) = refl
done_whole a (WithoutLeft around) = refl
done_whole a (WithoutRight b around) = refl

pub expr_run : {ts : List Lexeme} {a : Expr} → IsExpr ts a → (around : Around) → Stands ts around a
expr_run (g.operand {ts} {a} h) around =
    let c : OperandCame ts a = came h in
    record {
      state = In c.state around;
      runs = inside_run operand.step value Stops start step (λ s. In s around) (λ t b. behind (e.Plain b) around t) (begins around) (λ s t. refl) ts a c;
      on = λ t stops. behind_came operand.step value Stops start step (λ s. In s around) (λ t b. behind (e.Plain b) around t) (begins around) (λ s t. refl) ts a c t stops;
      whole = plain_whole c.state a around c.whole;
    }
expr_run (g.set {ts} {items} h) around = record { state = Done (e.SetOf items) around; runs = set_run h around; on = λ t stops. refl; whole = done_whole (e.SetOf items) around }
expr_run (g.union {ts} {us} {a} {b} h i) around =
    let x : Stands ts (UnionLeft around) a = expr_run h (UnionLeft around) in
    let y : Stands us (UnionRight a around) b = expr_run i (UnionRight a around) in
    record { state = Done (e.Union a b) around; runs = both_run ts us x y refl refl; on = λ t stops. refl; whole = done_whole (e.Union a b) around }
expr_run (g.without {ts} {us} {a} {b} h i) around =
    let x : Stands ts (WithoutLeft around) a = expr_run h (WithoutLeft around) in
    let y : Stands us (WithoutRight a around) b = expr_run i (WithoutRight a around) in
    record { state = Done (e.Without a b) around; runs = both_run ts us x y refl refl; on = λ t stops. refl; whole = done_whole (e.Without a b) around }

abbrev pub ExprCame : List Lexeme → Expr → Type 0
ExprCame ts a = Came step value_expr Stops (In start Outside) ts a

pub expr_came : {ts : List Lexeme} {a : Expr} → IsExpr ts a → ExprCame ts a
expr_came {ts} {a} h =
    let r : Stands ts Outside a = expr_run h Outside in
    record { state = r.state; runs = r.runs; whole = r.whole; stops = λ t e. r.on t e }

-- The tokens of an expression are in one way an expression.
pub one_expr : {ts : List Lexeme} {a b : Expr} → IsExpr ts a → IsExpr ts b → a ≡ b
one_expr {ts} {a} {b} h i =
    let x : Stands ts (UnionLeft Outside) a = expr_run h (UnionLeft Outside) in
    let y : Stands ts (UnionLeft Outside) b = expr_run i (UnionLeft Outside) in
    let s : Some x.state ≡ Some y.state = sym x.runs ∙ y.runs in
    let p = x.on (l.Mark m.Comma) (λ _ _. refl) in
    let q = y.on (l.Mark m.Comma) (λ _ _. refl) in
    cc
