-- What the marks of a text of the grammar stand for.
use Rattle.std.proofs.Common.{◌≡◌, ℕ, zero, suc, ◌⊎◌, inl, inr, List, [], ◌∷◌, ◌++◌, refl, sym, ap, ◌∙◌, subst, append_assoc, arith}
use Rattle.abc_value.specs.declared.scalar.Scalar.{Scalar}
use Rattle.abc_value.specs.declared.value.Value.{Value}
use Rattle.abc_pred.specs.declared.names.Name.{Name}
use Rattle.abc_pred.specs.Terms.{Expr, Pred}
use Rattle.abc_term.specs.Processes.{Process}
use Rattle.abc_grammar.specs.declared.lexemes.Lexeme.{Lexeme}
use Rattle.abc_grammar.specs.declared.lexemes.Lexeme.TheVariants as l
use Rattle.abc_text.specs.declared.words.Mark.TheVariants as m
use Rattle.abc_text.specs.declared.words.Keyword.TheVariants as k
use Rattle.abc_grammar.specs.Listed.{AreListed, MayBeListed, AreRepeated, IsVariable}
use Rattle.abc_grammar.specs.Listed as listed
use Rattle.abc_grammar.specs.Literals.{IsScalar}
use Rattle.abc_grammar.specs.Literals as lit
use Rattle.abc_grammar.specs.Exprs.{IsExpr}
use Rattle.abc_grammar.specs.Preds.{IsPred}
use Rattle.abc_grammar.specs.Plain.{PlainProgram}
use Rattle.abc_grammar.specs.Processes.{IsProcess}
use Rattle.abc_grammar.specs.Programs.{IsInitial, IsProgram}
use Rattle.abc_grammar.specs.Programs as g
use Rattle.abc_grammar.specs.Limits.{open_with, open_behind}
use Rattle.abc_grammar.specs.Laws.{Balanced}
use Rattle.abc_grammar.proofs.Balance.{open_behind-append, listed_balance, optional_balance, scalar_balance, expr_balance, pred_balance, variable_balance}
use Rattle.abc_grammar.proofs.PredRuns.{pred_came}
use Rattle.abc_grammar.proofs.ProcessRuns.{process_came}
use Rattle.abc_grammar_laws.specs.Marks.{EndsTuple, EndsPred, ClosesSet, MarksStand}
use Rattle.abc_grammar_laws.proofs.Splits.{Splits, same, first, second, splits, cons_both, last_both, same_bracket}
use Rattle.abc_grammar_laws.proofs.Cuts.{First, alone, with_more, first_of}
use Rattle.abc_grammar_laws.proofs.Around.{Dotted, own, output, input, Opened, literal, braced, component, token_at}

exprs_balance : {ts : List Lexeme} {es : List Expr} → AreListed IsExpr ts es → Balanced ts
exprs_balance h = listed_balance (λ us a i. expr_balance i) h

tuples :
    (front parts : List Lexeme) (exprs : List Expr) → AreListed IsExpr parts exprs →
    (h : EndsTuple (front ++ l.Mark m.OpenRound ∷ parts ++ l.Mark m.CloseRound ∷ [])) → (h.front ≡ front) × (h.parts ≡ parts)
tuples front parts exprs are h =
    let inner = last_both (front ++ l.Mark m.OpenRound ∷ parts) (h.front ++ l.Mark m.OpenRound ∷ h.parts) (l.Mark m.CloseRound)
    (l.Mark m.CloseRound) h.stands in
    let same = same_bracket h.front front h.parts parts (l.Mark m.OpenRound) (l.Mark m.OpenRound) (λ n. refl) (λ n. refl)
    (optional_balance (λ us a i. expr_balance i) h.listed) (exprs_balance are) (sym inner.0) in
    (same.0, same.2)

-- ---- variables are no predicate
one_variable : (x : Name) (a : Pred) → IsPred (l.Variable x ∷ []) a → ⊥
one_variable x a h = let c = pred_came h in let run = c.runs in let whole = c.whole in absurd (cc)

more_variables : (x : Name) (rest : List Lexeme) (a : Pred) → IsPred (l.Variable x ∷ l.Mark m.Comma ∷ rest) a → ⊥
more_variables x rest a h = let run = (pred_came h).runs in cc

alone_no : (ts : List Lexeme) (x : Name) → IsVariable ts x → (a : Pred) → IsPred ts a → ⊥
alone_no _ _ (listed.variable {n = x}) a h = one_variable x a h

first_no : (item rest : List Lexeme) (x : Name) → IsVariable item x → (a : Pred) → IsPred (item ++ l.Mark m.Comma ∷ rest) a → ⊥
first_no _ rest _ (listed.variable {n = x}) a h = more_variables x rest a h

no_pred : (ts : List Lexeme) (xs : List Name) → AreListed IsVariable ts xs → (a : Pred) → IsPred ts a → ⊥
no_pred ts xs h a i = by (first_of h)
  where
    by : First IsVariable ts → ⊥
    by (alone x v) = alone_no ts x v a i
    by (with_more item rest x v e) = first_no item rest x v a (subst (λ (us : List Lexeme). IsPred us a) e i)

variables_by :
    (before parts : List Lexeme) (xs : List Name) → AreListed IsVariable parts xs →
    Dotted (before ++ l.Mark m.OpenRound ∷ parts ++ l.Mark m.CloseRound ∷ []) → EndsPred before
variables_by before parts xs are (own front e) =
    let last = last_both (before ++ l.Mark m.OpenRound ∷ parts) front (l.Mark m.CloseRound) (l.Keyword k.This) e in
    let differ : l.Mark m.CloseRound ≡ l.Keyword k.This = last.1 in
    absurd (cc)
variables_by before parts xs are (output front us a e h) =
    let last = last_both (before ++ l.Mark m.OpenRound ∷ parts) (front ++ l.Mark m.At ∷ l.Mark m.OpenRound ∷ us) (l.Mark m.CloseRound)
    (l.Mark m.CloseRound) e in
    let same = same_bracket before (front ++ l.Mark m.At ∷ []) parts us (l.Mark m.OpenRound) (l.Mark m.OpenRound) (λ n. refl) (λ n. refl)
    (listed_balance variable_balance are) (pred_balance h)
    (last.0 ∙ sym (append_assoc front (l.Mark m.At ∷ []) (l.Mark m.OpenRound ∷ us))) in
    absurd (no_pred parts xs are a (subst (λ (vs : List Lexeme). IsPred vs a) (sym same.2) h))
variables_by before parts xs are (input front us ws a ys e h i) =
    let head : List Lexeme = front ++ l.Mark m.Question ∷ l.Mark m.OpenRound ∷ us in
    let last = last_both (before ++ l.Mark m.OpenRound ∷ parts) (head ++ l.Mark m.CloseRound ∷ l.Mark m.OpenRound ∷ ws) (l.Mark m.CloseRound)
    (l.Mark m.CloseRound) e in
    let same = same_bracket before (head ++ l.Mark m.CloseRound ∷ []) parts ws (l.Mark m.OpenRound) (l.Mark m.OpenRound) (λ n. refl) (λ n. refl)
    (listed_balance variable_balance are) (optional_balance variable_balance i)
    (last.0 ∙ sym (append_assoc head (l.Mark m.CloseRound ∷ []) (l.Mark m.OpenRound ∷ ws))) in
    record { front = front; us = us; p = a; stands = same.0; pred = h }

variables :
    (ts : List Lexeme) (program : PlainProgram) → IsProgram ts program →
    (before parts after : List Lexeme) (xs : List Name) → AreListed IsVariable parts xs →
    ts ≡ before ++ l.Mark m.OpenRound ∷ parts ++ l.Mark m.CloseRound ∷ l.Mark m.Dot ∷ after → EndsPred before
variables ts program h before parts after xs are e =
    variables_by before parts xs are
    (token_at h (before ++ l.Mark m.OpenRound ∷ parts ++ l.Mark m.CloseRound ∷ []) after (l.Mark m.Dot)
    (e ∙ sym (append_assoc (before ++ l.Mark m.OpenRound ∷ parts) (l.Mark m.CloseRound ∷ []) (l.Mark m.Dot ∷ after))))

-- ---- no process, and no component's values, begin with a scalar and a comma
-- balanced tokens don't begin with balanced ones and a `}`
no_close : (ts us : List Lexeme) → Balanced ts → ¬ Balanced (ts ++ l.Mark m.CloseCurly ∷ us)
no_close ts us h k =
    let zero_is : open_behind 0 us ≡ 0 =
    ap (λ (n : ℕ). open_behind (open_with n (l.Mark m.CloseCurly)) us) (sym (h 0)) ∙ sym (open_behind-append ts (l.Mark m.CloseCurly ∷ us) 0) ∙ k 0 in
    let one_is : open_behind 0 us ≡ 1 =
    ap (λ (n : ℕ). open_behind (open_with n (l.Mark m.CloseCurly)) us) (sym (h 1)) ∙ sym (open_behind-append ts (l.Mark m.CloseCurly ∷ us) 1) ∙ k 1 in
    absurd (omega (arith, zero_is, one_is))

zero_comma : (n : ℕ) (us : List Lexeme) (A : Process) → IsProcess (l.Number n ∷ l.Mark m.Comma ∷ us) A → ⊥
zero_comma zero us A h = let run = (process_came h).runs in cc
zero_comma (suc n) us A h = let run = (process_came h).runs in cc

minus_first : (us : List Lexeme) (A : Process) → IsProcess (l.Mark m.Minus ∷ us) A → ⊥
minus_first us A h = let run = (process_came h).runs in cc

text_first : (bytes : List ℕ) (us : List Lexeme) (A : Process) → IsProcess (l.Text bytes ∷ us) A → ⊥
text_first bytes us A h = let run = (process_came h).runs in cc

true_first : (us : List Lexeme) (A : Process) → IsProcess (l.Keyword k.True ∷ us) A → ⊥
true_first us A h = let run = (process_came h).runs in cc

false_first : (us : List Lexeme) (A : Process) → IsProcess (l.Keyword k.False ∷ us) A → ⊥
false_first us A h = let run = (process_came h).runs in cc

-- tokens up to a `}` that begin with another one
begins_with : (t : Lexeme) (ts us rest : List Lexeme) → ¬ (t ≡ l.Mark m.CloseCurly) → t ∷ ts ≡ us ++ l.Mark m.CloseCurly ∷ rest →
    (vs : List Lexeme) × (us ≡ t ∷ vs) × (ts ≡ vs ++ l.Mark m.CloseCurly ∷ rest)
begins_with t ts [] rest other e = absurd (other (cons_both e).0)
begins_with t ts (u ∷ us) rest other e = let h = cons_both e in (us, ap (λ (x : Lexeme). x ∷ us) (sym h.0), h.1)

one_first : (t : Lexeme) (ts us rest : List Lexeme) (A : Process) → ¬ (t ≡ l.Mark m.CloseCurly) → ((vs : List Lexeme) → IsProcess (t ∷ vs) A → ⊥) →
    IsProcess us A → t ∷ ts ≡ us ++ l.Mark m.CloseCurly ∷ rest → ⊥
one_first t ts us rest A other never h e =
    let b = begins_with t ts us rest other e in never b.0 (subst (λ (ws : List Lexeme). IsProcess ws A) b.1 h)

no_process : (item tail us rest : List Lexeme) (x : Scalar) (A : Process) → IsScalar item x → IsProcess us A →
    item ++ l.Mark m.Comma ∷ tail ≡ us ++ l.Mark m.CloseCurly ∷ rest → ⊥
no_process _ tail us rest _ A (lit.number {n} fits) h e =
    let b = begins_with (l.Number n) (l.Mark m.Comma ∷ tail) us rest (λ d. (cc)) e in
    let c = begins_with (l.Mark m.Comma) tail b.0 rest (λ d. (cc)) b.2 in
    zero_comma n c.0 A (subst (λ (ws : List Lexeme). IsProcess ws A) (b.1 ∙ ap (λ (ws : List Lexeme). l.Number n ∷ ws) c.1) h)
no_process _ tail us rest _ A (lit.negative {n} fits) h e = one_first (l.Mark m.Minus) (l.Number n ∷ l.Mark m.Comma ∷ tail) us rest A (λ d. (cc))
    (λ vs i. minus_first vs A i) h e
no_process _ tail us rest _ A (lit.text {bytes}) h e = one_first (l.Text bytes) (l.Mark m.Comma ∷ tail) us rest A (λ d. (cc))
    (λ vs i. text_first bytes vs A i) h e
no_process _ tail us rest _ A lit.yes h e = one_first (l.Keyword k.True) (l.Mark m.Comma ∷ tail) us rest A (λ d. (cc)) (λ vs i. true_first vs A i) h e
no_process _ tail us rest _ A lit.no h e = one_first (l.Keyword k.False) (l.Mark m.Comma ∷ tail) us rest A (λ d. (cc))
    (λ vs i. false_first vs A i) h e

-- the first values of a component begin with a name
initial_first : (ts : List Lexeme) (x : Name × Value) → IsInitial ts x → (a : Name) × (us : List Lexeme) × (ts ≡ l.Name a ∷ us)
initial_first _ _ (g.initial {a = a} h) = (a, _, refl)

values_first : {ts : List Lexeme} {xs : List (Name × Value)} → AreRepeated IsInitial ts xs →
    (ts ≡ []) ⊎ ((a : Name) × (us : List Lexeme) × (ts ≡ l.Name a ∷ us))
values_first listed.none = inl refl
values_first (listed.more {ts} {us} {a = x} h i) = by (values_first h) (initial_first us x i)
  where
    by :
        (ts ≡ []) ⊎ ((a : Name) × (vs : List Lexeme) × (ts ≡ l.Name a ∷ vs)) → (a : Name) × (vs : List Lexeme) × (us ≡ l.Name a ∷ vs) →
        (ts ++ us ≡ []) ⊎ ((a : Name) × (vs : List Lexeme) × (ts ++ us ≡ l.Name a ∷ vs))
    by (inl e) n = inr (n.0, n.1, ap (λ (ws : List Lexeme). ws ++ us) e ∙ n.2)
    by (inr n) o = inr (n.0, n.1 ++ us, ap (λ (ws : List Lexeme). ws ++ us) n.2)

-- a token that begins a scalar
StartsScalar : Lexeme → Type 0
StartsScalar t = ¬ (t ≡ l.Keyword k.Show) × ((a : Name) → ¬ (t ≡ l.Name a))

scalar_first : (item : List Lexeme) (x : Scalar) → IsScalar item x → (t : Lexeme) × (ts : List Lexeme) × (item ≡ t ∷ ts) × StartsScalar t
unfolding StartsScalar
scalar_first _ _ (lit.number {n} h) = (l.Number n, [], refl, (λ d. (cc), λ a d. (cc)))
scalar_first _ _ (lit.negative {n} h) = (l.Mark m.Minus, l.Number n ∷ [], refl, (λ d. (cc), λ a d. (cc)))
scalar_first _ _ (lit.text {bytes}) = (l.Text bytes, [], refl, (λ d. (cc), λ a d. (cc)))
scalar_first _ _ lit.yes = (l.Keyword k.True, [], refl, (λ d. (cc), λ a d. (cc)))
scalar_first _ _ lit.no = (l.Keyword k.False, [], refl, (λ d. (cc), λ a d. (cc)))

no_component : (item tail us rest : List Lexeme) (x : Scalar) (xs : List (Name × Value)) → IsScalar item x → AreRepeated IsInitial us xs →
    item ++ tail ≡ us ++ l.Keyword k.Show ∷ rest → ⊥
unfolding StartsScalar
no_component item tail us rest x xs s h e = by (scalar_first item x s) (values_first h)
  where
    by : (t : Lexeme) × (ts : List Lexeme) × (item ≡ t ∷ ts) × StartsScalar t →
        (us ≡ []) ⊎ ((a : Name) × (vs : List Lexeme) × (us ≡ l.Name a ∷ vs)) → ⊥
    by f (inl none) =
        let both : f.0 ∷ (f.1 ++ tail) ≡ l.Keyword k.Show ∷ rest = ap (λ (ws : List Lexeme). ws ++ tail) (sym f.2) ∙ e ∙ ap
        (λ (ws : List Lexeme). ws ++ l.Keyword k.Show ∷ rest) none in
        f.3.0 (cons_both both).0
    by f (inr n) =
        let both : f.0 ∷ (f.1 ++ tail) ≡ l.Name n.0 ∷ (n.1 ++ l.Keyword k.Show ∷ rest) =
        ap (λ (ws : List Lexeme). ws ++ tail) (sym f.2) ∙ e ∙ ap (λ (ws : List Lexeme). ws ++ l.Keyword k.Show ∷ rest) n.2 in
        f.3.1 n.0 (cons_both both).0

-- ---- so a `{` before scalars and a comma opens a set literal
not_none : {us : List Lexeme} {xs : List Scalar} (parts mid : List Lexeme) → MayBeListed IsScalar us xs → us ≡ parts ++ l.Mark m.Comma ∷ mid →
    AreListed IsScalar us xs
not_none parts mid (listed.some h) e = h
not_none [] mid listed.none e = absurd (cc)
not_none (p ∷ parts) mid listed.none e = absurd (cc)

in_set :
    (parts after us rest : List Lexeme) (scalars xs : List Scalar) → AreListed IsScalar parts scalars → MayBeListed IsScalar us xs →
    parts ++ l.Mark m.Comma ∷ after ≡ us ++ l.Mark m.CloseCurly ∷ rest → ClosesSet parts after
in_set parts after us rest scalars xs are h e = by (splits parts us (l.Mark m.Comma) (l.Mark m.CloseCurly) after rest e)
  where
    by : Splits parts us (l.Mark m.Comma) (l.Mark m.CloseCurly) after rest → ClosesSet parts after
    by (same a b c) = absurd (cc)
    by (first mid a b) = record {
      more = mid;
      rest = rest;
      scalars = xs;
      stands = b;
      listed = subst (λ (ws : List Lexeme). AreListed IsScalar ws xs) a (not_none parts mid h a);
    }
    by (second mid a b) =
        absurd (no_close us mid (optional_balance scalar_balance h) (λ n. ap (open_behind n) (sym a) ∙ listed_balance scalar_balance are n))

sets_by : (parts after : List Lexeme) (scalars : List Scalar) → AreListed IsScalar parts scalars → Opened (parts ++ l.Mark m.Comma ∷ after) →
    ClosesSet parts after
sets_by parts after scalars are (literal us rest xs e h) = in_set parts after us rest scalars xs are h e
sets_by parts after scalars are (braced us rest A e h) = by (first_of are)
  where
    by : First IsScalar parts → ClosesSet parts after
    by (alone x s) = absurd (no_process parts after us rest x A s h e)
    by (with_more item more x s f) =
        absurd (no_process item (more ++ l.Mark m.Comma ∷ after) us rest x A s h
        (sym (append_assoc item (l.Mark m.Comma ∷ more) (l.Mark m.Comma ∷ after)) ∙ ap (λ (ws : List Lexeme). ws ++ l.Mark m.Comma ∷ after) (sym f)
        ∙ e))
sets_by parts after scalars are (component us rest xs e h) = by (first_of are)
  where
    by : First IsScalar parts → ClosesSet parts after
    by (alone x s) = absurd (no_component parts (l.Mark m.Comma ∷ after) us rest x xs s h e)
    by (with_more item more x s f) =
        absurd (no_component item (l.Mark m.Comma ∷ more ++ l.Mark m.Comma ∷ after) us rest x xs s h
        (sym (append_assoc item (l.Mark m.Comma ∷ more) (l.Mark m.Comma ∷ after)) ∙ ap (λ (ws : List Lexeme). ws ++ l.Mark m.Comma ∷ after) (sym f)
        ∙ e))

sets :
    (ts : List Lexeme) (program : PlainProgram) → IsProgram ts program →
    (before parts after : List Lexeme) (scalars : List Scalar) → AreListed IsScalar parts scalars →
    ts ≡ before ++ l.Mark m.OpenCurly ∷ parts ++ l.Mark m.Comma ∷ after → ClosesSet parts after
sets ts program h before parts after scalars are e =
    sets_by parts after scalars are
    (token_at h before (parts ++ l.Mark m.Comma ∷ after) (l.Mark m.OpenCurly)
    (e ∙ append_assoc before (l.Mark m.OpenCurly ∷ parts) (l.Mark m.Comma ∷ after)))

pub marks_stand : MarksStand
marks_stand = record {
  outputs = λ ts program h before after e. token_at h before after (l.Mark m.At) e;
  tuples = tuples;
  variables = variables;
  sets = sets;
}
