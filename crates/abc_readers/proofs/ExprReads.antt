-- Reading expressions gives what is an expression, and is refused where none goes on.
use Rattle.std.proofs.Common.{◌≡◌, ℕ, zero, suc, ◌<◌, ◌≤◌, List, [], ◌∷◌, ◌++◌, length, refl, sym, ap, ◌∙◌, subst, append_assoc, arith}
use Rattle.abc_value.specs.declared.value.Value.TheVariants as v
use Rattle.abc_pred.specs.Terms.{Operand, Expr}
use Rattle.abc_pred.specs.Terms as e
use Rattle.abc_cause.specs.declared.Cause.TheVariants.{Syntax}
use Rattle.abc_grammar.specs.declared.lexemes.Lexeme.{Lexeme}
use Rattle.abc_grammar.specs.declared.lexemes.Lexeme.TheVariants as l
use Rattle.abc_text.specs.declared.words.Mark.TheVariants as m
use Rattle.abc_text.specs.declared.words.Keyword.TheVariants as k
use Rattle.abc_grammar.specs.Listed.{AreListed, MayBeListed}
use Rattle.abc_grammar.specs.Listed as gl
use Rattle.abc_grammar.specs.Operands.{IsOperand}
use Rattle.abc_grammar.specs.Exprs.{IsExpr}
use Rattle.abc_grammar.specs.Exprs as g
use Rattle.abc_reading.specs.Reading.{Read, Cut, Refused, ◌>>=◌, mapped, times}
use Rattle.abc_reading.proofs.Laws.{Begins, left_of, Owes, Reads, bind_owes, mapped_owes, lift_owes, pure_owes, take_owes, refuse_at_owes, refuse_end_owes, go_owes, like_owes, like_end_owes}
use Rattle.abc_reading.proofs.Again.{Guarded, again_owes, again-step}
use Rattle.abc_reading.proofs.Chain.{reads_leaves}
use Rattle.abc_readers.specs.Operands.{Tokens, Reading, refuse, close_round, listed, operand}
use Rattle.abc_readers.specs.Exprs.{whole, whole_operand, items, items_at, set_items, second_by, two_by, pair_by, expr_by, expr_step, expr}
use Rattle.abc_readers.proofs.OperandReads.{none_is, operand_reads, listed_reads}

pub none_expr : IsExpr (l.Keyword k.None ∷ []) (e.Plain (e.Literal v.Nothing))
none_expr = g.operand none_is

-- ---- terms that are read whole
module _ {A : Type 0} (R : Tokens → A → Type 0) (f : Tokens → Reading A) (law : Reads R f) where
  pub whole_reads : Reads R (whole f)
  whole_reads ts = bind_owes R R f (λ a us. Read a us) [] [] ts (f ts) (law ts) (λ a us mid h. pure_owes R (λ vs. Read a vs) mid us a h (λ vs e. refl)) (λ mid b. b)

pub whole_operand_reads : Reads IsOperand whole_operand
unfolding whole_operand
whole_operand_reads = whole_reads IsOperand operand operand_reads

-- ---- set(..)
-- behind the opening bracket, and with it
abbrev pub AreItems : Tokens → List Operand → Type 0
AreItems ts xs = (us : Tokens) × (ts ≡ us ++ l.Mark m.CloseRound ∷ []) × MayBeListed IsOperand us xs

abbrev pub AreSet : Tokens → List Operand → Type 0
AreSet ts xs = (us : Tokens) × (ts ≡ l.Mark m.OpenRound ∷ (us ++ l.Mark m.CloseRound ∷ [])) × MayBeListed IsOperand us xs

close_items_owes : (pre us : Tokens) (xs : List Operand) → AreListed IsOperand pre xs → Owes AreItems (close_round xs) pre us (close_round xs us)
close_items_owes pre [] xs h = refuse_end_owes AreItems (close_round xs) pre Syntax (l.Mark m.CloseRound ∷ [], xs, (pre, refl, gl.some h)) refl
close_items_owes pre (l.Mark m.CloseRound ∷ us) xs h = take_owes AreItems (close_round xs) pre (l.Mark m.CloseRound) us xs (pre, refl, gl.some h) (λ vs. refl)
close_items_owes pre (t ∷ us) xs h = refuse_at_owes AreItems (close_round xs) pre t us Syntax (l.Mark m.CloseRound ∷ [], xs, (pre, refl, gl.some h)) (λ vs. refl)

items_reads : Reads AreItems items
unfolding items
items_reads ts = bind_owes (AreListed IsOperand) AreItems (listed whole_operand) close_round [] [] ts (listed whole_operand ts) (listed_reads IsOperand whole_operand whole_operand_reads ts)
    (λ xs us mid h. close_items_owes mid us xs h)
    (λ mid b. (b.0 ++ l.Mark m.CloseRound ∷ [], b.1, (mid ++ b.0, sym (append_assoc mid b.0 (l.Mark m.CloseRound ∷ [])), gl.some b.2)))

items_at_reads : Reads AreItems items_at
items_at_reads [] = like_end_owes AreItems items_at items (items []) refl (items_reads [])
items_at_reads (l.Mark m.CloseRound ∷ ts) = take_owes AreItems items_at [] (l.Mark m.CloseRound) ts [] ([], refl, gl.none) (λ vs. refl)
items_at_reads (t ∷ ts) = like_owes AreItems items_at items t ts (items (t ∷ ts)) (λ us. refl) (items_reads (t ∷ ts))

begins_set : Begins AreSet []
begins_set = (l.Mark m.OpenRound ∷ l.Mark m.CloseRound ∷ [], [], ([], refl, gl.none))

set_items_reads : Reads AreSet set_items
set_items_reads [] = refuse_end_owes AreSet set_items [] Syntax begins_set refl
set_items_reads (l.Mark m.OpenRound ∷ ts) = go_owes AreSet set_items items_at [] (l.Mark m.OpenRound) ts (items_at ts) (λ us. refl)
    (lift_owes AreItems AreSet items_at [] (l.Mark m.OpenRound ∷ []) ts (items_at ts) (items_at_reads ts) (λ mid xs h. (h.0, ap (λ (us : Tokens). l.Mark m.OpenRound ∷ us) h.1, h.2)))
set_items_reads (t ∷ ts) = refuse_at_owes AreSet set_items [] t ts Syntax begins_set (λ us. refl)

set_is : (mid : Tokens) (xs : List Operand) → AreSet mid xs → IsExpr (l.Keyword k.Set ∷ mid) (e.SetOf xs)
set_is mid xs h = subst (λ (ts : Tokens). IsExpr (l.Keyword k.Set ∷ ts) (e.SetOf xs)) (sym h.1) (g.set h.2)

-- ---- two expressions in brackets, behind a keyword
abbrev IsPair : Lexeme → (Expr → Expr → Expr) → Type 0
IsPair t make = (ts us : Tokens) (a b : Expr) → IsExpr ts a → IsExpr us b → IsExpr (((t ∷ l.Mark m.OpenRound ∷ ts) ++ l.Mark m.Comma ∷ us) ++ l.Mark m.CloseRound ∷ []) (make a b)

module _ (t : Lexeme) (make : Expr → Expr → Expr) (is : IsPair t make) where
  abbrev closing : Expr → Tokens → Reading Expr
  closing x ts = close_round (tt {0}) ts >>= λ w ws. Read x ws

  close_pair : (ts pre us : Tokens) (a b : Expr) → IsExpr ts a → IsExpr pre b → Owes IsExpr (closing (make a b)) ((t ∷ l.Mark m.OpenRound ∷ ts) ++ l.Mark m.Comma ∷ pre) us (closing (make a b) us)
  close_pair ts pre [] a b h q = refuse_end_owes IsExpr (closing (make a b)) ((t ∷ l.Mark m.OpenRound ∷ ts) ++ l.Mark m.Comma ∷ pre) Syntax (l.Mark m.CloseRound ∷ [], make a b, is ts pre a b h q) refl
  close_pair ts pre (l.Mark m.CloseRound ∷ us) a b h q = take_owes IsExpr (closing (make a b)) ((t ∷ l.Mark m.OpenRound ∷ ts) ++ l.Mark m.Comma ∷ pre) (l.Mark m.CloseRound) us (make a b) (is ts pre a b h q) (λ vs. refl)
  close_pair ts pre (u ∷ us) a b h q = refuse_at_owes IsExpr (closing (make a b)) ((t ∷ l.Mark m.OpenRound ∷ ts) ++ l.Mark m.Comma ∷ pre) u us Syntax (l.Mark m.CloseRound ∷ [], make a b, is ts pre a b h q) (λ vs. refl)

  -- what may follow the first
  rest_of_pair : (ts : Tokens) (a : Expr) → IsExpr ts a → Begins IsExpr (t ∷ l.Mark m.OpenRound ∷ ts)
  rest_of_pair ts a h = (
    l.Mark m.Comma ∷ l.Keyword k.None ∷ l.Mark m.CloseRound ∷ [],
    make a (e.Plain (e.Literal v.Nothing)),
    subst (λ (us : Tokens). IsExpr us (make a (e.Plain (e.Literal v.Nothing)))) (append_assoc (t ∷ l.Mark m.OpenRound ∷ ts) (l.Mark m.Comma ∷ l.Keyword k.None ∷ []) (l.Mark m.CloseRound ∷ [])) (is ts (l.Keyword k.None ∷ []) a (e.Plain (e.Literal v.Nothing)) h none_expr),
  )

  module _ (inner : Tokens → Reading Expr) (law : Reads IsExpr inner) where
    second_owes : (ts us : Tokens) (a : Expr) → IsExpr ts a → Owes IsExpr (second_by inner make a) (t ∷ l.Mark m.OpenRound ∷ ts) us (second_by inner make a us)
    second_owes ts [] a h = refuse_end_owes IsExpr (second_by inner make a) (t ∷ l.Mark m.OpenRound ∷ ts) Syntax (rest_of_pair ts a h) refl
    second_owes ts (l.Mark m.Comma ∷ us) a h = go_owes IsExpr (second_by inner make a) (λ vs. whole inner vs >>= λ b ws. closing (make a b) ws) (t ∷ l.Mark m.OpenRound ∷ ts) (l.Mark m.Comma) us (whole inner us >>= λ b ws. closing (make a b) ws) (λ vs. refl)
        (bind_owes IsExpr IsExpr (whole inner) (λ b ws. closing (make a b) ws) [] ((t ∷ l.Mark m.OpenRound ∷ ts) ++ l.Mark m.Comma ∷ []) us (whole inner us) (whole_reads IsExpr inner law us)
        (λ b ws mid q. subst (λ (xs : Tokens). Owes IsExpr (closing (make a b)) xs ws (closing (make a b) ws)) (sym (append_assoc (t ∷ l.Mark m.OpenRound ∷ ts) (l.Mark m.Comma ∷ []) mid)) (close_pair ts mid ws a b h q))
        (λ mid b. (b.0 ++ l.Mark m.CloseRound ∷ [], make a b.1, regroup ts mid b.0 a b.1 h b.2)))
      where
        regroup : (ts mid more : Tokens) (a b : Expr) → IsExpr ts a → IsExpr (mid ++ more) b → IsExpr ((((t ∷ l.Mark m.OpenRound ∷ ts) ++ l.Mark m.Comma ∷ []) ++ mid) ++ (more ++ l.Mark m.CloseRound ∷ [])) (make a b)
        regroup ts mid more a b h q =
            subst (λ (xs : Tokens). IsExpr xs (make a b))
            (append_assoc (t ∷ l.Mark m.OpenRound ∷ ts) (l.Mark m.Comma ∷ (mid ++ more)) (l.Mark m.CloseRound ∷ [])
            ∙ ap (λ (xs : Tokens). (t ∷ l.Mark m.OpenRound ∷ ts) ++ (l.Mark m.Comma ∷ xs)) (append_assoc mid more (l.Mark m.CloseRound ∷ []))
            ∙ sym (append_assoc (t ∷ l.Mark m.OpenRound ∷ ts) (l.Mark m.Comma ∷ []) (mid ++ (more ++ l.Mark m.CloseRound ∷ [])))
            ∙ sym (append_assoc ((t ∷ l.Mark m.OpenRound ∷ ts) ++ l.Mark m.Comma ∷ []) mid (more ++ l.Mark m.CloseRound ∷ [])))
            (is ts (mid ++ more) a b h q)
    second_owes ts (u ∷ us) a h = refuse_at_owes IsExpr (second_by inner make a) (t ∷ l.Mark m.OpenRound ∷ ts) u us Syntax (rest_of_pair ts a h) (λ vs. refl)

    begins_pair : (pre : Tokens) → Begins IsExpr pre → Begins IsExpr ((t ∷ l.Mark m.OpenRound ∷ []) ++ pre)
    begins_pair pre b = let r = rest_of_pair (pre ++ b.0) b.1 b.2 in
        (b.0 ++ r.0, r.1, subst (λ (xs : Tokens). IsExpr (t ∷ l.Mark m.OpenRound ∷ xs) r.1) (append_assoc pre b.0 r.0) r.2)

    pair_owes : (ts : Tokens) → Owes IsExpr (pair_by inner make) (t ∷ []) ts (pair_by inner make ts)
    pair_owes [] = let r = rest_of_pair (l.Keyword k.None ∷ []) (e.Plain (e.Literal v.Nothing)) none_expr in refuse_end_owes IsExpr (pair_by inner make) (t ∷ []) Syntax (l.Mark m.OpenRound ∷ l.Keyword k.None ∷ r.0, r.1, r.2) refl
    pair_owes (l.Mark m.OpenRound ∷ ts) = go_owes IsExpr (pair_by inner make) (two_by inner make) (t ∷ []) (l.Mark m.OpenRound) ts (two_by inner make ts) (λ us. refl)
        (bind_owes IsExpr IsExpr (whole inner) (second_by inner make) [] (t ∷ l.Mark m.OpenRound ∷ []) ts (whole inner ts) (whole_reads IsExpr inner law ts) (λ a us mid h. second_owes mid us a h) begins_pair)
    pair_owes (u ∷ ts) = let r = rest_of_pair (l.Keyword k.None ∷ []) (e.Plain (e.Literal v.Nothing)) none_expr in refuse_at_owes IsExpr (pair_by inner make) (t ∷ []) u ts Syntax (l.Mark m.OpenRound ∷ l.Keyword k.None ∷ r.0, r.1, r.2) (λ us. refl)

-- ---- expressions
module _ (inner : Tokens → Reading Expr) (law : Reads IsExpr inner) where
  pub expr_by_reads : Reads IsExpr (expr_by inner)
  expr_by_reads [] = like_end_owes IsExpr (expr_by inner) (λ us. mapped e.Plain (operand us)) (mapped e.Plain (operand [])) refl
      (mapped_owes IsOperand IsExpr operand e.Plain [] [] [] (operand []) (operand_reads []) (λ mid a h. g.operand h))
  expr_by_reads (l.Keyword k.Set ∷ ts) = go_owes IsExpr (expr_by inner) (λ us. mapped e.SetOf (set_items us)) [] (l.Keyword k.Set) ts (mapped e.SetOf (set_items ts)) (λ us. refl)
      (mapped_owes AreSet IsExpr set_items e.SetOf [] (l.Keyword k.Set ∷ []) ts (set_items ts) (set_items_reads ts) set_is)
  expr_by_reads (l.Keyword k.Union ∷ ts) = go_owes IsExpr (expr_by inner) (pair_by inner e.Union) [] (l.Keyword k.Union) ts (pair_by inner e.Union ts) (λ us. refl)
      (pair_owes (l.Keyword k.Union) e.Union (λ xs ys a b h q. g.union h q) inner law ts)
  expr_by_reads (l.Keyword k.Without ∷ ts) = go_owes IsExpr (expr_by inner) (pair_by inner e.Without) [] (l.Keyword k.Without) ts (pair_by inner e.Without ts) (λ us. refl)
      (pair_owes (l.Keyword k.Without) e.Without (λ xs ys a b h q. g.without h q) inner law ts)
  expr_by_reads (t ∷ ts) = like_owes IsExpr (expr_by inner) (λ us. mapped e.Plain (operand us)) t ts (mapped e.Plain (operand (t ∷ ts))) (λ us. refl)
      (mapped_owes IsOperand IsExpr operand e.Plain [] [] (t ∷ ts) (operand (t ∷ ts)) (operand_reads (t ∷ ts)) (λ mid a h. g.operand h))

abbrev Good : (Unit {0} → Tokens → Reading Expr) → Type 0
Good f = Reads IsExpr (f tt)

times_read : (n : ℕ) → Good (times Syntax expr_step n)
times_read zero ts = refused ts
  where
    begins : Begins IsExpr []
    begins = (l.Keyword k.None ∷ [], e.Plain (e.Literal v.Nothing), none_expr)

    refused : (ts : Tokens) → Owes IsExpr (λ us. refuse us) [] ts (refuse ts)
    refused [] = refuse_end_owes IsExpr (λ us. refuse us) [] Syntax begins refl
    refused (t ∷ ts) = refuse_at_owes IsExpr (λ us. refuse us) [] t ts Syntax begins (λ us. refl)
times_read (suc n) ts = expr_by_reads (times Syntax expr_step n tt) (times_read n) ts

module _ (f g' : Tokens → Reading Expr) (lf : Reads IsExpr f) (n : ℕ) (agree : (us : Tokens) → length us < n → f us ≡ g' us) where
  second-agree : (make : Expr → Expr → Expr) (a : Expr) (ts : Tokens) → length ts ≤ n → second_by f make a ts ≡ second_by g' make a ts
  second-agree make a [] h = refl
  second-agree make a (l.Mark m.Comma ∷ ts) h = ap (λ (y : Reading Expr). (y >>= λ b us. Read b us) >>= λ b us. close_round (tt {0}) us >>= λ w ws. Read (make a b) ws) (agree ts (omega arith))
  second-agree make a (t ∷ ts) h = refl

  pair-agree : (make : Expr → Expr → Expr) (ts : Tokens) → length ts ≤ n → pair_by f make ts ≡ pair_by g' make ts
  pair-agree make [] h = refl
  pair-agree make (l.Mark m.OpenRound ∷ ts) h = by (f ts) (reads_leaves IsExpr f lf ts) ∙ ap (λ (y : Reading Expr). (y >>= λ a us. Read a us) >>= second_by g' make) (agree ts (omega arith))
    where
      by : (y : Reading Expr) → left_of y ≤ length ts → ((y >>= λ a us. Read a us) >>= second_by f make) ≡ ((y >>= λ a us. Read a us) >>= second_by g' make)
      by (Read a us) le = second-agree make a us (omega arith)
      by (Cut a us c vs) le = refl
      by (Refused c vs) le = refl
  pair-agree make (t ∷ ts) h = refl

  expr-agree : (ts : Tokens) → length ts ≤ n → expr_by f ts ≡ expr_by g' ts
  expr-agree [] h = refl
  expr-agree (l.Keyword k.Union ∷ ts) h = pair-agree e.Union ts (omega arith)
  expr-agree (l.Keyword k.Without ∷ ts) h = pair-agree e.Without ts (omega arith)
  expr-agree (t ∷ ts) h = refl

expr-guarded : Guarded Good expr_step
expr-guarded f g' q r u ts agree = expr-agree (f tt) (g' tt) q (length ts) (λ us lt. agree tt us lt) ts (omega arith)

pub expr_reads : Reads IsExpr expr
unfolding expr
expr_reads ts = again_owes Syntax expr_step Good expr-guarded times_read IsExpr [] tt ts (λ n. times_read n ts)

-- the expressions in brackets are expressions again
pub expr-eq : (ts : Tokens) → expr ts ≡ expr_by expr ts
unfolding expr
expr-eq ts = again-step Syntax expr_step Good expr-guarded times_read expr_reads tt ts
