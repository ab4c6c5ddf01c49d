-- Reading processes gives what is a process, and is refused where none goes on.
use Rattle.std.proofs.Common.{◌≡◌, ℕ, zero, suc, List, [], ◌∷◌, ◌++◌, Option, Some, refl, sym, ap, ◌∙◌, subst, append_assoc}
use Rattle.abc_value.specs.declared.value.Value.TheVariants as v
use Rattle.abc_pred.specs.declared.names.Name.{Name}
use Rattle.abc_pred.specs.Terms.{Expr, Pred}
use Rattle.abc_pred.specs.Terms as p
use Rattle.abc_term.specs.Processes.{Process, Update}
use Rattle.abc_term.specs.Processes as P
use Rattle.abc_cause.specs.declared.Cause.TheVariants.{Syntax}
use Rattle.abc_grammar.specs.declared.lexemes.Lexeme.{Lexeme}
use Rattle.abc_grammar.specs.declared.lexemes.Lexeme.TheVariants as l
use Rattle.abc_text.specs.declared.words.Mark.TheVariants as m
use Rattle.abc_text.specs.declared.words.Keyword.TheVariants as k
use Rattle.abc_grammar.specs.Listed.{AreListed, MayBeListed, AreRepeated, IsVariable}
use Rattle.abc_grammar.specs.Listed as gl
use Rattle.abc_grammar.specs.Exprs.{IsExpr}
use Rattle.abc_grammar.specs.Preds.{IsPred}
use Rattle.abc_grammar.specs.Preds as pg
use Rattle.abc_grammar.specs.Processes.{IsUpdate, IsProcess, IsChoice, IsPrefix, IsAfter}
use Rattle.abc_grammar.specs.Processes as g
use Rattle.abc_reading.specs.Reading.{mapped, chain}
use Rattle.abc_reading.proofs.Laws.{Begins, Owes, Reads, bind_owes, mapped_owes, take_owes, refuse_at_owes, refuse_end_owes, go_owes, like_owes, lift_owes}
use Rattle.abc_reading.proofs.Chain.{chain_reads}
use Rattle.abc_readers.specs.Operands.{Tokens, Reading, close_curly}
use Rattle.abc_readers.specs.Exprs.{whole_expr, expr}
use Rattle.abc_readers.specs.Preds.{pred}
use Rattle.abc_readers.specs.Combining.{one, IsOne, then_read, IsThen, repeated, closed, IsClosed}
use Rattle.abc_readers.specs.Processes.{round_opens, round_closes, square_opens, square_closes, at_sign, dot, question, becomes, when_word, a_name, a_variable, Head, under, whole_pred, condition_of, condition, update_of, update, starts_update, updates_of, dotted_updates, guard_of, guard_head, output_of, output_tail, output_head, input_of, input_tail, input_head, Again, process_again, prefix_again, pluses, bars, nil_at, headed_by, braced_by, prefix_by, choice_by, process_by, process_step}
use Rattle.abc_readers.proofs.ExprReads.{none_expr, whole_reads, expr_reads}
use Rattle.abc_readers.proofs.PredReads.{pred_reads}
use Rattle.abc_readers.proofs.Combined.{one_reads, then_begins, then_reads, StartsSo, repeated_reads, closed_reads}

some_inj : {A : Type 0} {x y : A} → Some x ≡ Some y → x ≡ y
some_inj e = cc

-- ---- which token it is
only_round_opens : (t : Lexeme) → round_opens t ≡ Some tt → t ≡ l.Mark m.OpenRound
only_round_opens (l.Mark m.OpenRound) e = refl
only_round_opens t e = absurd (cc)

only_round_closes : (t : Lexeme) → round_closes t ≡ Some tt → t ≡ l.Mark m.CloseRound
only_round_closes (l.Mark m.CloseRound) e = refl
only_round_closes t e = absurd (cc)

only_square_opens : (t : Lexeme) → square_opens t ≡ Some tt → t ≡ l.Mark m.OpenSquare
only_square_opens (l.Mark m.OpenSquare) e = refl
only_square_opens t e = absurd (cc)

only_square_closes : (t : Lexeme) → square_closes t ≡ Some tt → t ≡ l.Mark m.CloseSquare
only_square_closes (l.Mark m.CloseSquare) e = refl
only_square_closes t e = absurd (cc)

only_at_sign : (t : Lexeme) → at_sign t ≡ Some tt → t ≡ l.Mark m.At
only_at_sign (l.Mark m.At) e = refl
only_at_sign t e = absurd (cc)

only_dot : (t : Lexeme) → dot t ≡ Some tt → t ≡ l.Mark m.Dot
only_dot (l.Mark m.Dot) e = refl
only_dot t e = absurd (cc)

only_question : (t : Lexeme) → question t ≡ Some tt → t ≡ l.Mark m.Question
only_question (l.Mark m.Question) e = refl
only_question t e = absurd (cc)

only_becomes : (t : Lexeme) → becomes t ≡ Some tt → t ≡ l.Mark m.Becomes
only_becomes (l.Mark m.Becomes) e = refl
only_becomes t e = absurd (cc)

only_when_word : (t : Lexeme) → when_word t ≡ Some tt → t ≡ l.Keyword k.When
only_when_word (l.Keyword k.When) e = refl
only_when_word t e = absurd (cc)

only_name : (t : Lexeme) (n : Name) → a_name t ≡ Some n → t ≡ l.Name n
only_name (l.Name x) n e = ap l.Name (some_inj e)
only_name t n e = absurd (cc)

only_variable : (t : Lexeme) (n : Name) → a_variable t ≡ Some n → t ≡ l.Variable n
only_variable (l.Variable x) n e = ap l.Variable (some_inj e)
only_variable t n e = absurd (cc)

-- these tokens are that one token
pub mark_is : (meaning : Lexeme → Option (Unit {0})) (t : Lexeme) (only : (u : Lexeme) → meaning u ≡ Some tt →
    u ≡ t) (ts : Tokens) (u : Unit {0}) → IsOne meaning ts u → ts ≡ t ∷ []
mark_is meaning t only ts u h = h.whole ∙ ap (λ (x : Lexeme). x ∷ []) (only h.token h.means)

pub name_is : (ts : Tokens) (n : Name) → IsOne a_name ts n → ts ≡ l.Name n ∷ []
name_is ts n h = h.whole ∙ ap (λ (x : Lexeme). x ∷ []) (only_name h.token n h.means)

pub some_mark : (meaning : Lexeme → Option (Unit {0})) (t : Lexeme) → meaning t ≡ Some tt → Begins (IsOne meaning) []
some_mark meaning t e = (t ∷ [], tt, record { token = t; whole = refl; means = e })

zero_name : Name
zero_name = record { 0 = 0 }

pub some_name : Begins (IsOne a_name) []
some_name = (l.Name (record { 0 = 0 }) ∷ [], record { 0 = 0 }, record { token = l.Name (record { 0 = 0 }); whole = refl; means = refl })

some_variable : Begins (IsOne a_variable) []
some_variable = (l.Variable (record { 0 = 0 }) ∷ [], record { 0 = 0 }, record { token = l.Variable (record { 0 = 0 }); whole = refl; means = refl })

-- ---- conditions
pub record IsCondition (ts : Tokens) (a : Pred) : Type 0 where
  pub inside : Tokens
  pub whole : ts ≡ l.Mark m.OpenRound ∷ (inside ++ l.Mark m.CloseRound ∷ [])
  pub is : IsPred inside a

pub whole_pred_reads : Reads IsPred whole_pred
unfolding whole_pred
whole_pred_reads = whole_reads IsPred pred pred_reads

some_pred : Begins IsPred []
some_pred = (l.Keyword k.Tt ∷ [], p.True, pg.both (pg.test pg.always))

condition_is : (ts : Tokens) (x : Unit {0} × (Pred × Unit {0})) → IsThen (IsOne round_opens) (IsThen IsPred (IsOne round_closes)) ts x →
    IsCondition ts x.1.0
condition_is ts x h =
    let opening = mark_is round_opens (l.Mark m.OpenRound) only_round_opens h.front x.0 h.left in
    let ending = mark_is round_closes (l.Mark m.CloseRound) only_round_closes h.right.back x.1.1 h.right.right in
    let behind : h.back ≡ h.right.front ++ l.Mark m.CloseRound ∷ [] = h.right.whole ∙ ap (λ (us : Tokens). h.right.front ++ us) ending in
    record {
      inside = h.right.front;
      whole = h.whole ∙ ap (λ (us : Tokens). us ++ h.back) opening
          ∙ ap (λ (us : Tokens). l.Mark m.OpenRound ∷ us) behind;
      is = h.right.left;
    }

pub condition_reads : Reads IsCondition condition
unfolding condition
condition_reads ts =
    let closing = one_reads round_closes (some_mark round_closes (l.Mark m.CloseRound) refl) in
    let opening = one_reads round_opens (some_mark round_opens (l.Mark m.OpenRound) refl) in
    let inner = then_reads IsPred (IsOne round_closes) whole_pred (one round_closes) whole_pred_reads closing (some_mark round_closes
    (l.Mark m.CloseRound) refl) in
    let begun = then_begins IsPred (IsOne round_closes) whole_pred (one round_closes) some_pred (some_mark round_closes (l.Mark m.CloseRound) refl) in
    mapped_owes (IsThen (IsOne round_opens) (IsThen IsPred (IsOne round_closes))) IsCondition (then_read (one round_opens) (then_read whole_pred
    (one round_closes))) condition_of [] [] ts _
    (then_reads (IsOne round_opens) (IsThen IsPred (IsOne round_closes)) (one round_opens) (then_read whole_pred
    (one round_closes)) opening inner begun ts)
    (λ mid x h. condition_is mid x h)

some_condition : Begins IsCondition []
some_condition = (
  l.Mark m.OpenRound ∷ l.Keyword k.Tt ∷ l.Mark m.CloseRound ∷ [],
  p.True,
  record {
    inside = l.Keyword k.Tt ∷ [];
    whole = refl;
    is =
        pg.both (pg.test pg.always);
  },
)

-- ---- updates
pub whole_expr_reads : Reads IsExpr whole_expr
unfolding whole_expr
whole_expr_reads = whole_reads IsExpr expr expr_reads

pub some_expr : Begins IsExpr []
some_expr = (l.Keyword k.None ∷ [], p.Plain (p.Literal v.Nothing), none_expr)

abbrev UpdateTail : Tokens → Name × (Unit {0} × (Expr × Unit {0})) → Type 0
UpdateTail = IsThen (IsOne a_name) (IsThen (IsOne becomes) (IsThen IsExpr (IsOne square_closes)))

update_is : (ts : Tokens) (x : Unit {0} × (Name × (Unit {0} × (Expr × Unit {0})))) → IsThen (IsOne square_opens) UpdateTail ts x →
    IsUpdate ts (update_of x)
update_is ts x h =
    let opening = mark_is square_opens (l.Mark m.OpenSquare) only_square_opens h.front x.0 h.left in
    let named = name_is h.right.front x.1.0 h.right.left in
    let becoming = mark_is becomes (l.Mark m.Becomes) only_becomes h.right.right.front x.1.1.0 h.right.right.left in
    let ending = mark_is square_closes (l.Mark m.CloseSquare) only_square_closes h.right.right.right.back x.1.1.1.1 h.right.right.right.right in
    let es = h.right.right.right.front in
    let last : h.right.right.back ≡ es ++ l.Mark m.CloseSquare ∷ [] = h.right.right.right.whole ∙ ap (λ (us : Tokens). es ++ us) ending in
    let third : h.right.back ≡ l.Mark m.Becomes ∷ (es ++ l.Mark m.CloseSquare ∷ []) =
    h.right.right.whole ∙ ap (λ (us : Tokens). us ++ h.right.right.back) becoming ∙ ap (λ (us : Tokens). l.Mark m.Becomes ∷ us) last in
    let second : h.back ≡ l.Name x.1.0 ∷ l.Mark m.Becomes ∷ (es ++ l.Mark m.CloseSquare ∷ []) =
    h.right.whole ∙ ap (λ (us : Tokens). us ++ h.right.back) named ∙ ap (λ (us : Tokens). l.Name x.1.0 ∷ us) third in
    let whole : ts ≡ l.Mark m.OpenSquare ∷ l.Name x.1.0 ∷ l.Mark m.Becomes ∷ (es ++ l.Mark m.CloseSquare ∷ []) =
    h.whole ∙ ap (λ (us : Tokens). us ++ h.back) opening ∙ ap (λ (us : Tokens). l.Mark m.OpenSquare ∷ us) second in
    subst (λ (us : Tokens). IsUpdate us (update_of x)) (sym whole) (g.update h.right.right.right.left)

update_tail_reads : Reads UpdateTail (then_read (one a_name) (then_read (one becomes) (then_read whole_expr (one square_closes))))
update_tail_reads =
    let some_closing = some_mark square_closes (l.Mark m.CloseSquare) refl in
    let some_becoming = some_mark becomes (l.Mark m.Becomes) refl in
    let last = then_reads IsExpr (IsOne square_closes) whole_expr (one square_closes) whole_expr_reads
    (one_reads square_closes some_closing) some_closing in
    let some_last = then_begins IsExpr (IsOne square_closes) whole_expr (one square_closes) some_expr some_closing in
    let third = then_reads (IsOne becomes) (IsThen IsExpr (IsOne square_closes)) (one becomes) (then_read whole_expr (one square_closes))
    (one_reads becomes some_becoming) last some_last in
    let some_third = then_begins (IsOne becomes) (IsThen IsExpr (IsOne square_closes)) (one becomes) (then_read whole_expr
    (one square_closes)) some_becoming some_last in
    then_reads (IsOne a_name) (IsThen (IsOne becomes) (IsThen IsExpr (IsOne square_closes))) (one a_name) (then_read (one becomes)
    (then_read whole_expr (one square_closes))) (one_reads a_name some_name) third some_third

some_update_tail : Begins UpdateTail []
some_update_tail =
    let some_closing = some_mark square_closes (l.Mark m.CloseSquare) refl in
    let some_last = then_begins IsExpr (IsOne square_closes) whole_expr (one square_closes) some_expr some_closing in
    let some_third = then_begins (IsOne becomes) (IsThen IsExpr (IsOne square_closes)) (one becomes) (then_read whole_expr (one square_closes))
    (some_mark becomes (l.Mark m.Becomes) refl) some_last in
    then_begins (IsOne a_name) (IsThen (IsOne becomes) (IsThen IsExpr (IsOne square_closes))) (one a_name) (then_read (one becomes)
    (then_read whole_expr (one square_closes))) some_name some_third

pub update_reads : Reads IsUpdate update
unfolding update
update_reads ts =
    mapped_owes (IsThen (IsOne square_opens) UpdateTail) IsUpdate (then_read (one square_opens) (then_read (one a_name) (then_read (one becomes)
    (then_read whole_expr (one square_closes))))) update_of [] [] ts _
    (then_reads (IsOne square_opens) UpdateTail (one square_opens) (then_read (one a_name) (then_read (one becomes) (then_read whole_expr
    (one square_closes))))
    (one_reads square_opens (some_mark square_opens (l.Mark m.OpenSquare) refl)) update_tail_reads some_update_tail ts)
    (λ mid x h. update_is mid x h)

pub update_starts : (ts : Tokens) (a : Update) → IsUpdate ts a → StartsSo starts_update ts
update_starts ts a (g.update h) = refl

pub updates_reads : Reads (AreRepeated IsUpdate) (repeated starts_update update)
updates_reads = repeated_reads IsUpdate starts_update update update_reads update_starts

-- behind a dot
pub record AreDotted (ts : Tokens) (us : List Update) : Type 0 where
  pub updates : Tokens
  pub whole : ts ≡ l.Mark m.Dot ∷ updates
  pub are : AreRepeated IsUpdate updates us

dotted_are : (ts : Tokens) (x : Unit {0} × List Update) → IsThen (IsOne dot) (AreRepeated IsUpdate) ts x → AreDotted ts x.1
dotted_are ts x h =
    let dotted = mark_is dot (l.Mark m.Dot) only_dot h.front x.0 h.left in
    record { updates = h.back; whole = h.whole ∙ ap (λ (us : Tokens). us ++ h.back) dotted; are = h.right }

pub dotted_reads : Reads AreDotted dotted_updates
unfolding dotted_updates
dotted_reads ts =
    mapped_owes (IsThen (IsOne dot) (AreRepeated IsUpdate)) AreDotted (then_read (one dot) (repeated starts_update update)) updates_of [] [] ts _
    (then_reads (IsOne dot) (AreRepeated IsUpdate) (one dot) (repeated starts_update update) (one_reads dot (some_mark dot
    (l.Mark m.Dot) refl)) updates_reads ([], [], gl.none) ts)
    (λ mid x h. dotted_are mid x h)

some_dotted : Begins AreDotted []
some_dotted = (l.Mark m.Dot ∷ [], [], record { updates = []; whole = refl; are = gl.none })

-- ---- heads: with a prefix behind it, a head makes a prefix
abbrev pub IsHead : Tokens → Head → Type 0
IsHead ts h = (us : Tokens) (A : Process) → IsPrefix us A → IsPrefix (ts ++ us) (under h A)

guard_is : (ts : Tokens) (x : Unit {0} × Pred) → IsThen (IsOne when_word) IsCondition ts x → IsHead ts (guard_of x)
guard_is ts x h us A q =
    let word = mark_is when_word (l.Keyword k.When) only_when_word h.front x.0 h.left in
    let whole : ts ≡ l.Keyword k.When ∷ l.Mark m.OpenRound ∷ (h.right.inside ++ l.Mark m.CloseRound ∷ []) =
    h.whole ∙ ap (λ (vs : Tokens). vs ++ h.back) word ∙ ap (λ (vs : Tokens). l.Keyword k.When ∷ vs) h.right.whole in
    let all : ts ++ us ≡ l.Keyword k.When ∷ l.Mark m.OpenRound ∷ (h.right.inside ++ l.Mark m.CloseRound ∷ us) =
    ap (λ (vs : Tokens). vs ++ us) whole ∙ ap (λ (vs : Tokens). l.Keyword k.When ∷ l.Mark m.OpenRound ∷ vs) (append_assoc h.right.inside
    (l.Mark m.CloseRound ∷ []) us) in
    subst (λ (vs : Tokens). IsPrefix vs (P.When x.1 A)) (sym all) (g.when h.right.is q)

pub guard_reads : Reads IsHead guard_head
unfolding guard_head
guard_reads ts =
    mapped_owes (IsThen (IsOne when_word) IsCondition) IsHead (then_read (one when_word) condition) guard_of [] [] ts _
    (then_reads (IsOne when_word) IsCondition (one when_word) condition (one_reads when_word (some_mark when_word
    (l.Keyword k.When) refl)) condition_reads some_condition ts)
    (λ mid x h. guard_is mid x h)

-- an output behind its tuple
abbrev SendTail : Tokens → Unit {0} × (Pred × List Update) → Type 0
SendTail = IsThen (IsOne at_sign) (IsThen IsCondition AreDotted)

send_tail_reads : Reads SendTail (then_read (one at_sign) (then_read condition dotted_updates))
send_tail_reads =
    let some_last = then_begins IsCondition AreDotted condition dotted_updates some_condition some_dotted in
    then_reads (IsOne at_sign) (IsThen IsCondition AreDotted) (one at_sign) (then_read condition dotted_updates)
    (one_reads at_sign (some_mark at_sign (l.Mark m.At) refl)) (then_reads IsCondition AreDotted condition dotted_updates condition_reads
    dotted_reads some_dotted) some_last

some_send_tail : Begins SendTail []
some_send_tail =
    then_begins (IsOne at_sign) (IsThen IsCondition AreDotted) (one at_sign) (then_read condition dotted_updates) (some_mark at_sign
    (l.Mark m.At) refl)
    (then_begins IsCondition AreDotted condition dotted_updates some_condition some_dotted)

-- what stands behind the bracket that closes the tuple
record SendsBehind (ts : Tokens) (a : Pred) (us : List Update) : Type 0 where
  pub inside : Tokens
  pub updates : Tokens
  pub whole : ts ≡ l.Mark m.At ∷ l.Mark m.OpenRound ∷ (inside ++ l.Mark m.CloseRound ∷ l.Mark m.Dot ∷ updates)
  pub is : IsPred inside a
  pub are : AreRepeated IsUpdate updates us

sends_behind : (ts : Tokens) (x : Unit {0} × (Pred × List Update)) → SendTail ts x → SendsBehind ts x.1.0 x.1.1
sends_behind ts x h =
    let sign = mark_is at_sign (l.Mark m.At) only_at_sign h.front x.0 h.left in
    let c = h.right.left in
    let d = h.right.right in
    let back : h.back ≡ l.Mark m.OpenRound ∷ (c.inside ++ l.Mark m.CloseRound ∷ l.Mark m.Dot ∷ d.updates) =
    h.right.whole ∙ ap (λ (vs : Tokens). vs ++ h.right.back) c.whole ∙ ap (λ (vs : Tokens). (l.Mark m.OpenRound ∷ (c.inside ++ l.Mark m.CloseRound
    ∷ [])) ++ vs) d.whole
    ∙ ap (λ (vs : Tokens). l.Mark m.OpenRound ∷ vs) (append_assoc c.inside (l.Mark m.CloseRound ∷ []) (l.Mark m.Dot ∷ d.updates)) in
    record {
      inside = c.inside;
      updates = d.updates;
      whole = h.whole ∙ ap (λ (vs : Tokens). vs ++ h.back) sign
          ∙ ap (λ (vs : Tokens). l.Mark m.At ∷ vs) back;
      is = c.is;
      are = d.are;
    }

output_is : (ts : Tokens) (x : Unit {0} × (List Expr × (Unit {0} × (Pred × List Update)))) →
    IsThen (IsOne round_opens) (IsThen (IsClosed round_closes IsExpr) SendTail) ts x → IsHead ts (output_of x)
output_is ts x h vs A q =
    let opening = mark_is round_opens (l.Mark m.OpenRound) only_round_opens h.front x.0 h.left in
    let c = h.right.left in
    let s = sends_behind h.right.back x.1.1 h.right.right in
    let closing = only_round_closes c.closing c.closer in
    let tail : Tokens = l.Mark m.At ∷ l.Mark m.OpenRound ∷ (s.inside ++ l.Mark m.CloseRound ∷ l.Mark m.Dot ∷ (s.updates ++ vs)) in
    let behind : h.right.back ++ vs ≡ tail =
    ap (λ (us : Tokens). us ++ vs) s.whole ∙ ap (λ (us : Tokens). l.Mark m.At ∷ l.Mark m.OpenRound ∷ us) (append_assoc s.inside
    (l.Mark m.CloseRound ∷ l.Mark m.Dot ∷ s.updates) vs) in
    let tuple : h.right.front ≡ c.front ++ l.Mark m.CloseRound ∷ [] = c.whole ∙ ap (λ (t : Lexeme). c.front ++ t ∷ []) closing in
    let all : ts ++ vs ≡ l.Mark m.OpenRound ∷ (c.front ++ l.Mark m.CloseRound ∷ tail) =
    ap (λ (us : Tokens). us ++ vs) (h.whole ∙ ap (λ (us : Tokens). us ++ h.back) opening
    ∙ ap (λ (us : Tokens). l.Mark m.OpenRound ∷ us) h.right.whole)
    ∙ ap (λ (us : Tokens). l.Mark m.OpenRound ∷ us) (append_assoc h.right.front h.right.back vs
    ∙ ap (λ (us : Tokens). us ++ (h.right.back ++ vs)) tuple ∙ append_assoc c.front (l.Mark m.CloseRound ∷ []) (h.right.back ++ vs)
    ∙ ap (λ (us : Tokens). c.front ++ l.Mark m.CloseRound ∷ us) behind) in
    let grouped = append_assoc (l.Mark m.OpenRound ∷ c.front) (l.Mark m.CloseRound ∷ l.Mark m.At ∷ l.Mark m.OpenRound ∷ s.inside)
    (l.Mark m.CloseRound ∷ l.Mark m.Dot ∷ (s.updates ++ vs)) in
    subst (λ (us : Tokens). IsPrefix us (under (output_of x) A)) (grouped ∙ sym all) (g.output c.listed s.is (g.after s.are q))

pub tuple_reads : Reads (IsClosed round_closes IsExpr) (closed round_closes whole_expr)
tuple_reads = closed_reads round_closes IsExpr whole_expr whole_expr_reads (l.Mark m.CloseRound, refl)

some_tuple : Begins (IsClosed round_closes IsExpr) []
some_tuple = (l.Mark m.CloseRound ∷ [], [], record { front = []; closing = l.Mark m.CloseRound; whole = refl; listed = gl.none; closer = refl })

abbrev pub OutputTail : Tokens → List Expr × (Unit {0} × (Pred × List Update)) → Type 0
OutputTail = IsThen (IsClosed round_closes IsExpr) SendTail

pub output_tail_reads : Reads OutputTail output_tail
output_tail_reads = then_reads (IsClosed round_closes IsExpr) SendTail (closed round_closes whole_expr) (then_read (one at_sign)
    (then_read condition dotted_updates)) tuple_reads send_tail_reads some_send_tail

pub output_reads : Reads IsHead output_head
unfolding output_head
output_reads ts =
    let some_tail = then_begins (IsClosed round_closes IsExpr) SendTail (closed round_closes whole_expr) (then_read (one at_sign)
    (then_read condition dotted_updates)) some_tuple some_send_tail in
    mapped_owes (IsThen (IsOne round_opens) OutputTail) IsHead (then_read (one round_opens) output_tail) output_of [] [] ts _
    (then_reads (IsOne round_opens) OutputTail (one round_opens) output_tail (one_reads round_opens (some_mark round_opens
    (l.Mark m.OpenRound) refl)) output_tail_reads some_tail ts)
    (λ mid x h. output_is mid x h)

-- an input behind its condition
abbrev ReceiveTail : Tokens → Unit {0} × (List Name × List Update) → Type 0
ReceiveTail = IsThen (IsOne round_opens) (IsThen (IsClosed round_closes (IsOne a_variable)) AreDotted)

pub one_variable_reads : Reads (IsOne a_variable) (one a_variable)
one_variable_reads = one_reads a_variable some_variable

pub variables_reads : Reads (IsClosed round_closes (IsOne a_variable)) (closed round_closes (one a_variable))
variables_reads = closed_reads round_closes (IsOne a_variable) (one a_variable) one_variable_reads (l.Mark m.CloseRound, refl)

some_variables : Begins (IsClosed round_closes (IsOne a_variable)) []
some_variables = (l.Mark m.CloseRound ∷ [], [], record { front = []; closing = l.Mark m.CloseRound; whole = refl; listed = gl.none; closer = refl })

receive_tail_reads : Reads ReceiveTail (then_read (one round_opens) (then_read (closed round_closes (one a_variable)) dotted_updates))
receive_tail_reads =
    let some_last = then_begins (IsClosed round_closes (IsOne a_variable)) AreDotted (closed round_closes
    (one a_variable)) dotted_updates some_variables some_dotted in
    then_reads (IsOne round_opens) (IsThen (IsClosed round_closes (IsOne a_variable)) AreDotted) (one round_opens) (then_read (closed round_closes
    (one a_variable)) dotted_updates)
    (one_reads round_opens (some_mark round_opens (l.Mark m.OpenRound) refl))
    (then_reads (IsClosed round_closes (IsOne a_variable)) AreDotted (closed round_closes
    (one a_variable)) dotted_updates variables_reads dotted_reads some_dotted) some_last

some_receive_tail : Begins ReceiveTail []
some_receive_tail =
    then_begins (IsOne round_opens) (IsThen (IsClosed round_closes (IsOne a_variable)) AreDotted) (one round_opens) (then_read
    (closed round_closes (one a_variable)) dotted_updates)
    (some_mark round_opens (l.Mark m.OpenRound) refl)
    (then_begins (IsClosed round_closes (IsOne a_variable)) AreDotted (closed round_closes
    (one a_variable)) dotted_updates some_variables some_dotted)

-- one token that is a variable, as the grammar has it
variable_is : (ts : Tokens) (n : Name) → IsOne a_variable ts n → IsVariable ts n
variable_is ts n h = subst (λ (us : Tokens). IsVariable us n) (sym (h.whole ∙ ap (λ (t : Lexeme). t ∷ []) (only_variable h.token n h.means)))
    gl.variable

variables_are : {ts : Tokens} {xs : List Name} → AreListed (IsOne a_variable) ts xs → AreListed IsVariable ts xs
variables_are (gl.one {ts} {a} h) = gl.one (variable_is ts a h)
variables_are (gl.more {ts} {us} {items} {a} h q) = gl.more (variables_are h) (variable_is us a q)

may_be_variables : {ts : Tokens} {xs : List Name} → MayBeListed (IsOne a_variable) ts xs → MayBeListed IsVariable ts xs
may_be_variables gl.none = gl.none
may_be_variables (gl.some h) = gl.some (variables_are h)

-- what stands behind the condition
record ReceivesBehind (ts : Tokens) (xs : List Name) (us : List Update) : Type 0 where
  pub variables : Tokens
  pub updates : Tokens
  pub whole : ts ≡ l.Mark m.OpenRound ∷ (variables ++ l.Mark m.CloseRound ∷ l.Mark m.Dot ∷ updates)
  pub listed : MayBeListed IsVariable variables xs
  pub are : AreRepeated IsUpdate updates us

receives_behind : (ts : Tokens) (x : Unit {0} × (List Name × List Update)) → ReceiveTail ts x → ReceivesBehind ts x.1.0 x.1.1
receives_behind ts x h =
    let opening = mark_is round_opens (l.Mark m.OpenRound) only_round_opens h.front x.0 h.left in
    let c = h.right.left in
    let d = h.right.right in
    let tuple : h.right.front ≡ c.front ++ l.Mark m.CloseRound ∷ [] = c.whole ∙ ap (λ (t : Lexeme). c.front ++ t ∷ []) (only_round_closes c.closing
    c.closer) in
    let back : h.back ≡ c.front ++ l.Mark m.CloseRound ∷ l.Mark m.Dot ∷ d.updates =
    h.right.whole ∙ ap (λ (vs : Tokens). vs ++ h.right.back) tuple ∙ ap (λ (vs : Tokens). (c.front ++ l.Mark m.CloseRound ∷ []) ++ vs) d.whole
    ∙ append_assoc c.front (l.Mark m.CloseRound ∷ []) (l.Mark m.Dot ∷ d.updates) in
    record {
      variables = c.front;
      updates = d.updates;
      whole = h.whole ∙ ap (λ (vs : Tokens). vs ++ h.back) opening ∙ ap (λ (vs : Tokens). l.Mark m.OpenRound ∷ vs) back;
      listed = may_be_variables c.listed;
      are = d.are;
    }

input_is : (ts : Tokens) (x : Unit {0} × (Pred × (Unit {0} × (List Name × List Update)))) →
    IsThen (IsOne question) (IsThen IsCondition ReceiveTail) ts x → IsHead ts (input_of x)
input_is ts x h vs A q =
    let mark = mark_is question (l.Mark m.Question) only_question h.front x.0 h.left in
    let c = h.right.left in
    let s = receives_behind h.right.back x.1.1 h.right.right in
    let tail : Tokens = l.Mark m.OpenRound ∷ (s.variables ++ l.Mark m.CloseRound ∷ l.Mark m.Dot ∷ (s.updates ++ vs)) in
    let behind : h.right.back ++ vs ≡ tail =
    ap (λ (us : Tokens). us ++ vs) s.whole ∙ ap (λ (us : Tokens). l.Mark m.OpenRound ∷ us) (append_assoc s.variables
    (l.Mark m.CloseRound ∷ l.Mark m.Dot ∷ s.updates) vs) in
    let all : ts ++ vs ≡ l.Mark m.Question ∷ l.Mark m.OpenRound ∷ (c.inside ++ l.Mark m.CloseRound ∷ tail) =
    ap (λ (us : Tokens). us ++ vs) (h.whole ∙ ap (λ (us : Tokens). us ++ h.back) mark ∙ ap (λ (us : Tokens). l.Mark m.Question ∷ us) h.right.whole)
    ∙ ap (λ (us : Tokens). l.Mark m.Question ∷ us) (append_assoc h.right.front h.right.back vs
    ∙ ap (λ (us : Tokens). us ++ (h.right.back ++ vs)) c.whole
    ∙ ap (λ (us : Tokens). l.Mark m.OpenRound ∷ us) (append_assoc c.inside (l.Mark m.CloseRound ∷ []) (h.right.back ++ vs))
    ∙ ap (λ (us : Tokens). l.Mark m.OpenRound ∷ (c.inside ++ l.Mark m.CloseRound ∷ us)) behind) in
    let grouped = append_assoc (l.Mark m.Question ∷ l.Mark m.OpenRound ∷ c.inside) (l.Mark m.CloseRound ∷ l.Mark m.OpenRound ∷ s.variables)
    (l.Mark m.CloseRound ∷ l.Mark m.Dot ∷ (s.updates ++ vs)) in
    subst (λ (us : Tokens). IsPrefix us (under (input_of x) A)) (grouped ∙ sym all) (g.input c.is s.listed (g.after s.are q))

abbrev pub InputTail : Tokens → Pred × (Unit {0} × (List Name × List Update)) → Type 0
InputTail = IsThen IsCondition ReceiveTail

pub input_tail_reads : Reads InputTail input_tail
input_tail_reads = then_reads IsCondition ReceiveTail condition (then_read (one round_opens) (then_read (closed round_closes
    (one a_variable)) dotted_updates)) condition_reads receive_tail_reads some_receive_tail

pub input_reads : Reads IsHead input_head
unfolding input_head
input_reads ts =
    let some_tail = then_begins IsCondition ReceiveTail condition (then_read (one round_opens) (then_read (closed round_closes
    (one a_variable)) dotted_updates)) some_condition some_receive_tail in
    mapped_owes (IsThen (IsOne question) InputTail) IsHead (then_read (one question) input_tail) input_of [] [] ts _
    (then_reads (IsOne question) InputTail (one question) input_tail (one_reads question (some_mark question
    (l.Mark m.Question) refl)) input_tail_reads some_tail ts)
    (λ mid x h. input_is mid x h)

-- ---- prefixes, choices and processes
pub nil_prefix : IsPrefix (l.Number 0 ∷ []) P.Nil
nil_prefix = g.nil

pub nil_process : IsProcess (l.Number 0 ∷ []) P.Nil
nil_process = g.choice (g.prefix g.nil)

begins_prefix : Begins IsPrefix []
begins_prefix = (l.Number 0 ∷ [], P.Nil, nil_prefix)

abbrev Braced : Tokens → Process → Type 0
Braced ts A = (us : Tokens) × (ts ≡ us ++ l.Mark m.CloseCurly ∷ []) × IsProcess us A

close_braces_owes : (pre us : Tokens) (A : Process) → IsProcess pre A → Owes Braced (close_curly A) pre us (close_curly A us)
close_braces_owes pre [] A h = refuse_end_owes Braced (close_curly A) pre Syntax (l.Mark m.CloseCurly ∷ [], A, (pre, refl, h)) refl
close_braces_owes pre (l.Mark m.CloseCurly ∷ us) A h = take_owes Braced (close_curly A) pre (l.Mark m.CloseCurly) us A (pre, refl, h) (λ vs. refl)
close_braces_owes pre (t ∷ us) A h = refuse_at_owes Braced (close_curly A) pre t us Syntax (l.Mark m.CloseCurly ∷ [], A, (pre, refl, h)) (λ vs. refl)

-- which grammar is read again
abbrev pub Grammar : Again → Tokens → Process → Type 0
Grammar process_again = IsProcess
Grammar prefix_again = IsPrefix

module _ (inner : Again → Tokens → Reading Process) (law : (x : Again) → Reads (Grammar x) (inner x)) where
  headed_reads : (head : Tokens → Reading Head) → Reads IsHead head → Reads IsPrefix (headed_by inner head)
  headed_reads head lh ts = bind_owes IsHead IsPrefix head (λ h us. mapped (under h) (inner prefix_again us)) [] [] ts (head ts) (lh ts)
      (λ h us mid q. mapped_owes IsPrefix IsPrefix (inner prefix_again) (under h) [] mid us (inner prefix_again us) (law prefix_again us)
      (λ mid' A r. q mid' A r))
      (λ mid b. (
        b.0 ++ l.Number 0 ∷ [],
        under b.1 P.Nil,
        subst (λ (us : Tokens). IsPrefix us (under b.1 P.Nil)) (append_assoc mid b.0
            (l.Number 0 ∷ [])) (b.2 (l.Number 0 ∷ []) P.Nil nil_prefix),
      ))

  braced_reads : Reads Braced (braced_by inner)
  braced_reads ts = bind_owes IsProcess Braced (inner process_again) close_curly [] [] ts (inner process_again ts) (law process_again ts)
      (λ A us mid h. close_braces_owes mid us A h)
      (λ mid b. (b.0 ++ l.Mark m.CloseCurly ∷ [], b.1, (mid ++ b.0, sym (append_assoc mid b.0 (l.Mark m.CloseCurly ∷ [])), b.2)))

  nil_owes : (n : ℕ) (ts : Tokens) → Owes IsPrefix (prefix_by inner) [] (l.Number n ∷ ts) (nil_at n ts)
  nil_owes zero ts = take_owes IsPrefix (prefix_by inner) [] (l.Number 0) ts P.Nil nil_prefix (λ us. refl)
  nil_owes (suc n) ts = refuse_at_owes IsPrefix (prefix_by inner) [] (l.Number (suc n)) ts Syntax begins_prefix (λ us. refl)

  pub prefix_by_reads : Reads IsPrefix (prefix_by inner)
  prefix_by_reads [] = refuse_end_owes IsPrefix (prefix_by inner) [] Syntax begins_prefix refl
  prefix_by_reads (l.Number n ∷ ts) = nil_owes n ts
  prefix_by_reads (l.Name c ∷ ts) = take_owes IsPrefix (prefix_by inner) [] (l.Name c) ts (P.Call c) g.call (λ us. refl)
  prefix_by_reads (l.Mark m.OpenCurly ∷ ts) = go_owes IsPrefix (prefix_by inner) (braced_by inner) [] (l.Mark m.OpenCurly) ts (braced_by inner ts)
      (λ us. refl)
      (lift_owes Braced IsPrefix (braced_by inner) [] (l.Mark m.OpenCurly ∷ []) ts (braced_by inner ts) (braced_reads ts)
      (λ mid A h. subst (λ (us : Tokens). IsPrefix (l.Mark m.OpenCurly ∷ us) A) (sym h.1) (g.braced h.2)))
  prefix_by_reads (l.Keyword k.When ∷ ts) =
      like_owes IsPrefix (prefix_by inner) (headed_by inner guard_head) (l.Keyword k.When) ts (headed_by inner guard_head (l.Keyword k.When ∷ ts))
      (λ us. refl) (headed_reads guard_head guard_reads (l.Keyword k.When ∷ ts))
  prefix_by_reads (l.Mark m.OpenRound ∷ ts) =
      like_owes IsPrefix (prefix_by inner) (headed_by inner output_head) (l.Mark m.OpenRound) ts (headed_by inner output_head
      (l.Mark m.OpenRound ∷ ts)) (λ us. refl) (headed_reads output_head output_reads (l.Mark m.OpenRound ∷ ts))
  prefix_by_reads (l.Mark m.Question ∷ ts) =
      like_owes IsPrefix (prefix_by inner) (headed_by inner input_head) (l.Mark m.Question) ts (headed_by inner input_head
      (l.Mark m.Question ∷ ts)) (λ us. refl) (headed_reads input_head input_reads (l.Mark m.Question ∷ ts))
  prefix_by_reads (t ∷ ts) = refuse_at_owes IsPrefix (prefix_by inner) [] t ts Syntax begins_prefix (λ us. refl)

  plus_is : (ts us : Tokens) (A B : Process) (t : Lexeme) (f : Process → Process → Process) → pluses t ≡ Some f → IsChoice ts A → IsPrefix us B →
      IsChoice (ts ++ t ∷ us) (f A B)
  plus_is ts us A B (l.Mark m.Plus) f e h q = subst (λ (j : Process → Process → Process). IsChoice (ts ++ l.Mark m.Plus ∷ us) (j A B)) (some_inj e)
      (g.plus h q)
  plus_is ts us A B t f e h q = absurd (cc)

  pub choice_by_reads : Reads IsChoice (choice_by inner)
  choice_by_reads = chain_reads Syntax (prefix_by inner) pluses IsPrefix IsChoice prefix_by_reads (λ ts A h. g.prefix h) plus_is

  bar_is : (ts us : Tokens) (A B : Process) (t : Lexeme) (f : Process → Process → Process) → bars t ≡ Some f → IsProcess ts A → IsChoice us B →
      IsProcess (ts ++ t ∷ us) (f A B)
  bar_is ts us A B (l.Mark m.Bar) f e h q = subst (λ (j : Process → Process → Process). IsProcess (ts ++ l.Mark m.Bar ∷ us) (j A B)) (some_inj e)
      (g.par h q)
  bar_is ts us A B t f e h q = absurd (cc)

  pub process_by_reads : Reads IsProcess (process_by inner)
  process_by_reads = whole_reads IsProcess (chain Syntax (choice_by inner) bars) (chain_reads Syntax
      (choice_by inner) bars IsChoice IsProcess choice_by_reads (λ ts A h. g.choice h) bar_is)

  pub step_reads : (x : Again) → Reads (Grammar x) (process_step inner x)
  step_reads process_again = process_by_reads
  step_reads prefix_again = prefix_by_reads
