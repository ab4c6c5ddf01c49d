-- What is a process is read, where nothing that goes on with it follows.
use Rattle.std.proofs.Common.{◌≡◌, List, [], ◌∷◌, ◌++◌, Some, None, refl, ap, ◌∙◌, subst, append_assoc}
use Rattle.abc_pred.specs.declared.names.Name.{Name}
use Rattle.abc_value.specs.declared.scalar.Scalar.{Scalar}
use Rattle.abc_value.specs.declared.value.Value.{Value}
use Rattle.abc_pred.specs.Terms.{Operand, Expr, Pred}
use Rattle.abc_term.specs.Processes.{Process, Update}
use Rattle.abc_term.specs.Processes as P
use Rattle.abc_cause.specs.declared.Cause.TheVariants.{Syntax}
use Rattle.abc_grammar.specs.declared.lexemes.Lexeme.{Lexeme}
use Rattle.abc_grammar.specs.declared.lexemes.Lexeme.TheVariants as l
use Rattle.abc_text.specs.declared.words.Mark.TheVariants as m
use Rattle.abc_text.specs.declared.words.Keyword.TheVariants as k
use Rattle.abc_grammar.specs.Listed.{AreListed, MayBeListed, AreRepeated, IsVariable}
use Rattle.abc_grammar.specs.Listed as gl
use Rattle.abc_grammar.specs.Literals.{IsScalar, IsLiteral}
use Rattle.abc_grammar.specs.Literals as gs
use Rattle.abc_grammar.specs.Operands.{IsOperand, IsProduct, IsAtom}
use Rattle.abc_grammar.specs.Operands as og
use Rattle.abc_grammar.specs.Exprs.{IsExpr}
use Rattle.abc_grammar.specs.Exprs as eg
use Rattle.abc_grammar.specs.Preds.{IsPred}
use Rattle.abc_grammar.specs.Processes.{IsUpdate, IsProcess, IsChoice, IsPrefix, IsAfter}
use Rattle.abc_grammar.specs.Processes as g
use Rattle.abc_reading.specs.Reading.{Read, ◌>>=◌, mapped, again, joined, chain}
use Rattle.abc_reading.specs.Exact.{Ends}
use Rattle.abc_reading.proofs.Chain.{joined_ends, chain_first, chain_more}
use Rattle.abc_readers.specs.Operands.{Tokens, Reading, close_curly, commas}
use Rattle.abc_readers.specs.Laws.{EndsOperand}
use Rattle.abc_readers.specs.Exprs.{whole_expr}
use Rattle.abc_readers.specs.Combining.{one, IsOne, closed, then_read}
use Rattle.abc_readers.specs.Processes.{round_opens, round_closes, square_closes, at_sign, a_variable, Head, guard, output, input, under, whole_pred, condition_of, condition, update_of, update, starts_update, updates_of, dotted_updates, guard_of, guard_head, output_of, output_head, input_of, input_head, prefix_again, process_step, pluses, bars, process, prefix, choice}
use Rattle.abc_readers.proofs.PredWhole.{pred_ends}
use Rattle.abc_readers.proofs.ExprWhole.{expr_ends}
use Rattle.abc_readers.proofs.Combined.{NoMore, one_whole, repeated_whole, closed_whole}
use Rattle.abc_readers.proofs.ProcessReads.{whole_expr_reads, update_reads, update_starts, one_variable_reads}
use Rattle.abc_readers.proofs.ProcessAgain.{prefix_leaves, prefix-eq, choice_leaves, process-chain}

-- ---- parts
whole_pred_ends : {ts : Tokens} {a : Pred} → IsPred ts a → (rest : Tokens) → whole_pred (ts ++ l.Mark m.CloseRound ∷ rest) ≡ Read a (l.Mark
    m.CloseRound ∷ rest)
unfolding whole_pred
whole_pred_ends h rest = ap (λ (y : Reading Pred). y >>= λ a us. Read a us) (pred_ends h (l.Mark m.CloseRound ∷ rest)
    (record { stars = refl; signs = refl }) refl refl)

whole_expr_ends : (ts : Tokens) (a : Expr) → IsExpr ts a → (rest : Tokens) → EndsOperand rest → whole_expr (ts ++ rest) ≡ Read a rest
unfolding whole_expr
whole_expr_ends ts a h rest ends = ap (λ (y : Reading Expr). y >>= λ b us. Read b us) (expr_ends h rest ends)

condition_whole : {ts : Tokens} {a : Pred} → IsPred ts a → (rest : Tokens) → condition (l.Mark m.OpenRound ∷ (ts ++ l.Mark m.CloseRound ∷ rest)) ≡
    Read a rest
unfolding condition
condition_whole h rest =
    ap (λ (y : Reading Pred). mapped condition_of (mapped (λ b. (tt, b)) (y >>= λ a us. mapped (λ b. (a, b)) (one round_closes us))))
    (whole_pred_ends h rest)

update_whole : (ts : Tokens) (a : Update) → IsUpdate ts a → (rest : Tokens) → update (ts ++ rest) ≡ Read a rest
unfolding update
update_whole ts a (g.update {a = n} {ts = es} {e} h) rest =
    rw (append_assoc es (l.Mark m.CloseSquare ∷ []) rest)
    (ap (λ (y : Reading Expr). mapped update_of (mapped (λ b. (tt, b)) (mapped (λ b. (n, b)) (mapped (λ b. (tt, b)) (y >>= λ x us. mapped (λ b.
    (x, b)) (one square_closes us))))))
    (whole_expr_ends es e h (l.Mark m.CloseSquare ∷ rest) (record { stars = refl; signs = refl })))

dotted_whole : {ts : Tokens} {us : List Update} → AreRepeated IsUpdate ts us → (rest : Tokens) → NoMore starts_update rest →
    dotted_updates (l.Mark m.Dot ∷ (ts ++ rest)) ≡ Read us rest
unfolding dotted_updates
dotted_whole {ts} {us} h rest stop =
    ap (λ (y : Reading (List Update)). mapped updates_of (mapped (λ b. (tt, b)) y))
    (repeated_whole IsUpdate starts_update update update_reads update_starts update_whole ts us h rest stop)

-- no expression begins with a bracket that closes
abbrev NoClose : Tokens → Type 0
NoClose [] = ⊥
NoClose (t ∷ ts) = round_closes t ≡ None

and_more : (ts us : Tokens) → NoClose ts → NoClose (ts ++ us)
and_more [] us h = absurd h
and_more (t ∷ ts) us h = h

scalar_opens : {ts : Tokens} {x : Scalar} → IsScalar ts x → NoClose ts
scalar_opens (gs.number h) = refl
scalar_opens (gs.negative h) = refl
scalar_opens gs.text = refl
scalar_opens gs.yes = refl
scalar_opens gs.no = refl

literal_opens : {ts : Tokens} {x : Value} → IsLiteral ts x → NoClose ts
literal_opens (gs.scalar h) = scalar_opens h
literal_opens gs.nothing = refl
literal_opens (gs.set h) = refl

atom_opens : {ts : Tokens} {a : Operand} → IsAtom ts a → NoClose ts
atom_opens (og.literal h) = literal_opens h
atom_opens og.attribute = refl
atom_opens og.own = refl
atom_opens og.variable = refl
atom_opens (og.bracketed h) = refl
atom_opens (og.size h) = refl
atom_opens (og.free h) = refl

product_opens : {ts : Tokens} {a : Operand} → IsProduct ts a → NoClose ts
product_opens (og.atom h) = atom_opens h
product_opens (og.times {ts} {us} h q) = and_more ts (l.Mark m.Star ∷ us) (product_opens h)

operand_opens : {ts : Tokens} {a : Operand} → IsOperand ts a → NoClose ts
operand_opens (og.product h) = product_opens h
operand_opens (og.plus {ts} {us} h q) = and_more ts (l.Mark m.Plus ∷ us) (operand_opens h)
operand_opens (og.minus {ts} {us} h q) = and_more ts (l.Mark m.Minus ∷ us) (operand_opens h)

by_first_token : (ts : Tokens) → NoClose ts → (t : Lexeme) × (us : Tokens) × (ts ≡ t ∷ us) × (round_closes t ≡ None)
by_first_token [] h = absurd h
by_first_token (t ∷ ts) h = (t, ts, refl, h)

expr_opens : (ts : Tokens) (a : Expr) → IsExpr ts a → (t : Lexeme) × (us : Tokens) × (ts ≡ t ∷ us) × (round_closes t ≡ None)
expr_opens ts a (eg.operand h) = by_first_token ts (operand_opens h)
expr_opens ts a (eg.set h) = by_first_token ts refl
expr_opens ts a (eg.union h q) = by_first_token ts refl
expr_opens ts a (eg.without h q) = by_first_token ts refl

tuple_whole : {ts : Tokens} {es : List Expr} → MayBeListed IsExpr ts es → (rest : Tokens) →
    closed round_closes whole_expr (ts ++ l.Mark m.CloseRound ∷ rest) ≡ Read es rest
tuple_whole {ts} {es} h rest =
    subst (λ (us : Tokens). closed round_closes whole_expr us ≡ Read es rest) (append_assoc ts (l.Mark m.CloseRound ∷ []) rest)
    (closed_whole round_closes IsExpr whole_expr whole_expr_reads (l.Mark m.CloseRound, refl) EndsOperand
    (λ us. record { stars = refl; signs = refl }) closes_operand whole_expr_ends expr_opens closes_comma
    (ts ++ l.Mark m.CloseRound ∷ []) es (record { front = ts; closing = l.Mark m.CloseRound; whole = refl; listed = h; closer = refl }) rest)
  where
    closes_operand : (t : Lexeme) (us : Tokens) → round_closes t ≡ Some tt → EndsOperand (t ∷ us)
    closes_operand (l.Mark m.CloseRound) us e = record { stars = refl; signs = refl }
    closes_operand t us e = absurd (cc)

    closes_comma : (t : Lexeme) → round_closes t ≡ Some tt → commas {A = Expr} t ≡ None
    closes_comma (l.Mark m.CloseRound) e = refl
    closes_comma t e = absurd (cc)

-- one token that is a variable
one_is : (ts : Tokens) (n : Name) → IsVariable ts n → IsOne a_variable ts n
one_is ts n gl.variable = record { token = l.Variable n; whole = refl; means = refl }

ones_are : {ts : Tokens} {xs : List Name} → AreListed IsVariable ts xs → AreListed (IsOne a_variable) ts xs
ones_are (gl.one {ts} {a} h) = gl.one (one_is ts a h)
ones_are (gl.more {ts} {us} {items} {a} h q) = gl.more (ones_are h) (one_is us a q)

may_be_ones : {ts : Tokens} {xs : List Name} → MayBeListed IsVariable ts xs → MayBeListed (IsOne a_variable) ts xs
may_be_ones gl.none = gl.none
may_be_ones (gl.some h) = gl.some (ones_are h)

abbrev Anything : Tokens → Type 0
Anything ts = Unit {0}

variables_whole : {ts : Tokens} {xs : List Name} → MayBeListed IsVariable ts xs → (rest : Tokens) →
    closed round_closes (one a_variable) (ts ++ l.Mark m.CloseRound ∷ rest) ≡ Read xs rest
variables_whole {ts} {xs} h rest =
    subst (λ (us : Tokens). closed round_closes (one a_variable) us ≡ Read xs rest) (append_assoc ts (l.Mark m.CloseRound ∷ []) rest)
    (closed_whole round_closes (IsOne a_variable) (one a_variable) one_variable_reads (l.Mark m.CloseRound, refl) Anything (λ us. tt)
    (λ t us e. tt) (λ us n q more stop. one_whole a_variable us n q more) opens closes_comma
    (ts ++ l.Mark m.CloseRound ∷ []) xs (record { front = ts; closing = l.Mark m.CloseRound; whole = refl; listed = may_be_ones h; closer = refl })
    rest)
  where
    by_token : (t : Lexeme) (n : Name) → a_variable t ≡ Some n → round_closes t ≡ None
    by_token (l.Variable x) n e = refl
    by_token t n e = absurd (cc)

    opens : (us : Tokens) (n : Name) → IsOne a_variable us n → (t : Lexeme) × (vs : Tokens) × (us ≡ t ∷ vs) × (round_closes t ≡ None)
    opens us n q = (q.token, [], q.whole, by_token q.token n q.means)

    closes_comma : (t : Lexeme) → round_closes t ≡ Some tt → commas {A = Name} t ≡ None
    closes_comma (l.Mark m.CloseRound) e = refl
    closes_comma t e = absurd (cc)

-- ---- heads
-- no prefix begins as an update does
prefix_no_update : {ts : Tokens} {A : Process} → IsPrefix ts A → (rest : Tokens) → NoMore starts_update (ts ++ rest)
prefix_no_update g.nil rest = refl
prefix_no_update g.call rest = refl
prefix_no_update (g.braced h) rest = refl
prefix_no_update (g.when h q) rest = refl
prefix_no_update (g.output h q r) rest = refl
prefix_no_update (g.input h q r) rest = refl

guard_whole : {ts : Tokens} {a : Pred} → IsPred ts a → (rest : Tokens) → guard_head (l.Keyword k.When ∷ l.Mark m.OpenRound ∷ (ts ++ l.Mark
    m.CloseRound ∷ rest)) ≡ Read (guard a) rest
unfolding guard_head
guard_whole h rest = ap (λ (y : Reading Pred). mapped guard_of (mapped (λ b. (tt, b)) y)) (condition_whole h rest)

output_whole : {ts us vs : Tokens} {es : List Expr} {a : Pred} {updates : List Update} → MayBeListed IsExpr ts es → IsPred us a →
    AreRepeated IsUpdate vs updates → (rest : Tokens) → NoMore starts_update rest
    → output_head (l.Mark m.OpenRound ∷ (ts ++ l.Mark m.CloseRound ∷ l.Mark m.At ∷ l.Mark m.OpenRound ∷
    (us ++ l.Mark m.CloseRound ∷ l.Mark m.Dot ∷ (vs ++ rest)))) ≡ Read (output es a updates) rest
unfolding output_head
output_whole {ts} {us} {vs} {es} {a} {updates} h q r rest stop =
    ap (λ (y : Reading (List Expr)). mapped output_of (mapped (λ b. (tt, b)) (y >>= λ x ws. mapped (λ b. (x, b)) (then_read (one at_sign)
    (then_read condition dotted_updates) ws))))
    (tuple_whole h (l.Mark m.At ∷ l.Mark m.OpenRound ∷ (us ++ l.Mark m.CloseRound ∷ l.Mark m.Dot ∷ (vs ++ rest))))
    ∙ ap (λ (y : Reading Pred). mapped output_of (mapped (λ b. (tt, b)) (mapped (λ b. (es, b)) (mapped (λ b. (tt, b)) (y >>= λ x ws. mapped (λ b.
    (x, b)) (dotted_updates ws))))))
    (condition_whole q (l.Mark m.Dot ∷ (vs ++ rest)))
    ∙ ap (λ (y : Reading (List Update)). mapped output_of (mapped (λ b. (tt, b)) (mapped (λ b. (es, b)) (mapped (λ b. (tt, b)) (mapped (λ b.
    (a, b)) y))))) (dotted_whole r rest stop)

input_whole : {ts us vs : Tokens} {a : Pred} {xs : List Name} {updates : List Update} → IsPred ts a → MayBeListed IsVariable us xs →
    AreRepeated IsUpdate vs updates → (rest : Tokens) → NoMore starts_update rest
    → input_head (l.Mark m.Question ∷ l.Mark m.OpenRound ∷ (ts ++ l.Mark m.CloseRound ∷ l.Mark m.OpenRound ∷
    (us ++ l.Mark m.CloseRound ∷ l.Mark m.Dot ∷ (vs ++ rest)))) ≡ Read (input a xs updates) rest
unfolding input_head
input_whole {ts} {us} {vs} {a} {xs} {updates} h q r rest stop =
    ap (λ (y : Reading Pred). mapped input_of (mapped (λ b. (tt, b)) (y >>= λ x ws. mapped (λ b. (x, b)) (then_read (one round_opens) (then_read
    (closed round_closes (one a_variable)) dotted_updates) ws))))
    (condition_whole h (l.Mark m.OpenRound ∷ (us ++ l.Mark m.CloseRound ∷ l.Mark m.Dot ∷ (vs ++ rest))))
    ∙ ap (λ (y : Reading (List Name)). mapped input_of (mapped (λ b. (tt, b)) (mapped (λ b. (a, b)) (mapped (λ b. (tt, b)) (y >>= λ x ws. mapped
    (λ b. (x, b)) (dotted_updates ws))))))
    (variables_whole q (l.Mark m.Dot ∷ (vs ++ rest)))
    ∙ ap (λ (y : Reading (List Update)). mapped input_of (mapped (λ b. (tt, b)) (mapped (λ b. (a, b)) (mapped (λ b. (tt, b)) (mapped (λ b.
    (xs, b)) y))))) (dotted_whole r rest stop)

output_grouped : (ts us vs rest : Tokens) → (l.Mark m.OpenRound ∷ ts ++ l.Mark m.CloseRound ∷ l.Mark m.At ∷ l.Mark m.OpenRound ∷ us ++ l.Mark
    m.CloseRound ∷ l.Mark m.Dot ∷ vs) ++ rest
    ≡ l.Mark m.OpenRound ∷ (ts ++ l.Mark m.CloseRound ∷ l.Mark m.At ∷ l.Mark m.OpenRound ∷ (us ++ l.Mark m.CloseRound ∷ l.Mark m.Dot ∷ (vs ++ rest)))
output_grouped ts us vs rest =
    append_assoc (l.Mark m.OpenRound ∷ ts ++ l.Mark m.CloseRound ∷ l.Mark m.At ∷ l.Mark m.OpenRound ∷ us)
    (l.Mark m.CloseRound ∷ l.Mark m.Dot ∷ vs) rest
    ∙ append_assoc (l.Mark m.OpenRound ∷ ts) (l.Mark m.CloseRound ∷ l.Mark m.At ∷ l.Mark m.OpenRound ∷ us) (l.Mark m.CloseRound ∷ l.Mark m.Dot ∷
    (vs ++ rest))

input_grouped : (ts us vs rest : Tokens) → (l.Mark m.Question ∷ l.Mark m.OpenRound ∷ ts ++ l.Mark m.CloseRound ∷ l.Mark m.OpenRound ∷ us ++ l.Mark
    m.CloseRound ∷ l.Mark m.Dot ∷ vs) ++ rest
    ≡ l.Mark m.Question ∷ l.Mark m.OpenRound ∷ (ts ++ l.Mark m.CloseRound ∷ l.Mark m.OpenRound ∷ (us ++ l.Mark m.CloseRound ∷ l.Mark m.Dot ∷
    (vs ++ rest)))
input_grouped ts us vs rest =
    append_assoc (l.Mark m.Question ∷ l.Mark m.OpenRound ∷ ts ++ l.Mark m.CloseRound ∷ l.Mark m.OpenRound ∷ us)
    (l.Mark m.CloseRound ∷ l.Mark m.Dot ∷ vs) rest
    ∙ append_assoc (l.Mark m.Question ∷ l.Mark m.OpenRound ∷ ts) (l.Mark m.CloseRound ∷ l.Mark m.OpenRound ∷ us)
    (l.Mark m.CloseRound ∷ l.Mark m.Dot ∷ (vs ++ rest))

-- ---- prefixes, choices and processes
mutual
  unfolding prefix process choice

  pub whole-process : {ts : Tokens} {A : Process} → IsProcess ts A → (rest : Tokens) → Ends pluses rest →
      chain Syntax choice bars (ts ++ rest) ≡ joined Syntax choice bars A rest
  whole-process (g.choice {ts} {A} h) rest ends =
      chain_first Syntax choice bars choice_leaves ts A rest (whole-choice h rest ∙ joined_ends Syntax prefix pluses prefix_leaves A rest ends)
  whole-process (g.par {ts} {us} {A} {B} h q) rest ends =
      chain_more Syntax choice bars choice_leaves ts us A B (l.Mark m.Bar) P.Par rest refl
      (whole-process h (l.Mark m.Bar ∷ (us ++ rest)) refl) (whole-choice q rest ∙ joined_ends Syntax prefix pluses prefix_leaves B rest ends)

  pub whole-choice : {ts : Tokens} {A : Process} → IsChoice ts A → (rest : Tokens) → choice (ts ++ rest) ≡ joined Syntax prefix pluses A rest
  whole-choice (g.prefix {ts} {A} h) rest = chain_first Syntax prefix pluses prefix_leaves ts A rest (whole-prefix h rest)
  whole-choice (g.plus {ts} {us} {A} {B} h q) rest =
      chain_more Syntax prefix pluses prefix_leaves ts us A B (l.Mark m.Plus) P.Choice rest refl (whole-choice h (l.Mark m.Plus ∷ (us ++ rest)))
      (whole-prefix q rest)

  pub whole-prefix : {ts : Tokens} {A : Process} → IsPrefix ts A → (rest : Tokens) → prefix (ts ++ rest) ≡ Read A rest
  whole-prefix g.nil rest = prefix-eq (l.Number 0 ∷ rest)
  whole-prefix (g.call {c}) rest = prefix-eq (l.Name c ∷ rest)
  whole-prefix (g.braced {ts} {A} h) rest =
      ap prefix (append_assoc (l.Mark m.OpenCurly ∷ ts) (l.Mark m.CloseCurly ∷ []) rest)
      ∙ prefix-eq (l.Mark m.OpenCurly ∷ (ts ++ l.Mark m.CloseCurly ∷ rest))
      ∙ ap (λ (y : Reading Process). y >>= close_curly) (process-chain (ts ++ l.Mark m.CloseCurly ∷ rest)
      ∙ ap (λ (y : Reading Process). y >>= λ a us. Read a us) (whole-process h (l.Mark m.CloseCurly ∷ rest) refl
      ∙ joined_ends Syntax choice bars choice_leaves A (l.Mark m.CloseCurly ∷ rest) refl))
  whole-prefix (g.when {ts} {us} {p} {A} h q) rest =
      ap prefix (append_assoc (l.Keyword k.When ∷ l.Mark m.OpenRound ∷ ts) (l.Mark m.CloseRound ∷ us) rest)
      ∙ prefix-eq (l.Keyword k.When ∷ l.Mark m.OpenRound ∷ (ts ++ l.Mark m.CloseRound ∷ (us ++ rest)))
      ∙ ap (λ (y : Reading Head). y >>= λ h vs. mapped (under h) (again Syntax process_step prefix_again vs)) (guard_whole h (us ++ rest))
      ∙ ap (mapped (under (guard p))) (whole-prefix q rest)
  whole-prefix (g.output {ts} {us} {vs} {es} {p} {updates} {A} h q r) rest = ap prefix (output_grouped ts us vs rest) ∙ behind_output h q r rest
  whole-prefix (g.input {ts} {us} {vs} {p} {xs} {updates} {A} h q r) rest = ap prefix (input_grouped ts us vs rest) ∙ behind_input h q r rest

  behind_output : {ts us vs : Tokens} {es : List Expr} {p : Pred} {updates : List Update} {A : Process} → MayBeListed IsExpr ts es → IsPred us p →
      IsAfter vs updates A → (rest : Tokens)
      → prefix (l.Mark m.OpenRound ∷ (ts ++ l.Mark m.CloseRound ∷ l.Mark m.At ∷ l.Mark m.OpenRound ∷ (us ++ l.Mark m.CloseRound ∷ l.Mark m.Dot ∷
      (vs ++ rest)))) ≡ Read (P.Output es p updates A) rest
  behind_output {ts} {us} {vs} {es} {p} {updates} {A} h q (g.after {ts = ws} {us = xs} r t) rest =
      ap (λ (zs : Tokens). prefix (l.Mark m.OpenRound ∷ (ts ++ l.Mark m.CloseRound ∷ l.Mark m.At ∷ l.Mark m.OpenRound ∷
      (us ++ l.Mark m.CloseRound ∷ l.Mark m.Dot ∷ zs)))) (append_assoc ws xs rest)
      ∙ prefix-eq (l.Mark m.OpenRound ∷ (ts ++ l.Mark m.CloseRound ∷ l.Mark m.At ∷ l.Mark m.OpenRound ∷
      (us ++ l.Mark m.CloseRound ∷ l.Mark m.Dot ∷ (ws ++ (xs ++ rest)))))
      ∙ ap (λ (y : Reading Head). y >>= λ h vs. mapped (under h) (again Syntax process_step prefix_again vs)) (output_whole h q r (xs ++ rest)
      (prefix_no_update t rest))
      ∙ ap (mapped (under (output es p updates))) (whole-prefix t rest)

  behind_input : {ts us vs : Tokens} {p : Pred} {names : List Name} {updates : List Update} {A : Process} → IsPred ts p →
      MayBeListed IsVariable us names → IsAfter vs updates A → (rest : Tokens)
      → prefix (l.Mark m.Question ∷ l.Mark m.OpenRound ∷ (ts ++ l.Mark m.CloseRound ∷ l.Mark m.OpenRound ∷
      (us ++ l.Mark m.CloseRound ∷ l.Mark m.Dot ∷ (vs ++ rest)))) ≡ Read (P.Input p names updates A) rest
  behind_input {ts} {us} {vs} {p} {names} {updates} {A} h q (g.after {ts = ws} {us = xs} r t) rest =
      ap (λ (zs : Tokens). prefix (l.Mark m.Question ∷ l.Mark m.OpenRound ∷ (ts ++ l.Mark m.CloseRound ∷ l.Mark m.OpenRound ∷
      (us ++ l.Mark m.CloseRound ∷ l.Mark m.Dot ∷ zs)))) (append_assoc ws xs rest)
      ∙ prefix-eq (l.Mark m.Question ∷ l.Mark m.OpenRound ∷ (ts ++ l.Mark m.CloseRound ∷ l.Mark m.OpenRound ∷
      (us ++ l.Mark m.CloseRound ∷ l.Mark m.Dot ∷ (ws ++ (xs ++ rest)))))
      ∙ ap (λ (y : Reading Head). y >>= λ h vs. mapped (under h) (again Syntax process_step prefix_again vs)) (input_whole h q r (xs ++ rest)
      (prefix_no_update t rest))
      ∙ ap (mapped (under (input p names updates))) (whole-prefix t rest)

pub process_ends : {ts : Tokens} {A : Process} → IsProcess ts A → (rest : Tokens) → Ends pluses rest → Ends bars rest →
    process (ts ++ rest) ≡ Read A rest
process_ends {ts} {A} h rest plus_ends bar_ends =
    process-chain (ts ++ rest) ∙ ap (λ (y : Reading Process). y >>= λ a us. Read a us) (whole-process h rest plus_ends
    ∙ joined_ends Syntax choice bars choice_leaves A rest bar_ends)
