-- Reading predicates gives what is a predicate, and is refused where none goes on.
use Rattle.std.proofs.Common.{◌≡◌, ℕ, zero, suc, ◌<◌, ◌≤◌, [], ◌∷◌, ◌++◌, length, Some, refl, ap, subst, append_assoc, arith}
use Rattle.abc_value.specs.declared.value.Value.TheVariants as v
use Rattle.abc_pred.specs.Terms.{Operand, Pred}
use Rattle.abc_pred.specs.Terms as p
use Rattle.abc_cause.specs.declared.Cause.TheVariants.{Syntax}
use Rattle.abc_grammar.specs.declared.lexemes.Lexeme.{Lexeme}
use Rattle.abc_grammar.specs.declared.lexemes.Lexeme.TheVariants as l
use Rattle.abc_text.specs.declared.words.Mark.TheVariants as m
use Rattle.abc_text.specs.declared.words.Keyword.TheVariants as k
use Rattle.abc_grammar.specs.Operands.{IsOperand}
use Rattle.abc_grammar.specs.Preds.{IsPred, IsBoth, IsTest}
use Rattle.abc_grammar.specs.Preds as g
use Rattle.abc_reading.specs.Reading.{◌>>=◌, mapped, times, chain}
use Rattle.abc_reading.proofs.Laws.{Begins, Owes, Reads, bind_owes, mapped_owes, take_owes, refuse_at_owes, refuse_end_owes, go_owes, like_owes, like_end_owes}
use Rattle.abc_reading.proofs.Again.{Guarded, again_owes, again-step}
use Rattle.abc_reading.proofs.Chain.{reads_leaves, chain_reads, chain-agree}
use Rattle.abc_readers.specs.Operands.{Tokens, Reading, refuse, operand}
use Rattle.abc_readers.specs.Preds.{close_square, compared, comparison, ands, ors, plain_by, test_by, both_by, pred_by, pred_step, pred, both}
use Rattle.abc_readers.proofs.OperandReads.{none_is, operand_reads}

some_inj : {A : Type 0} {x y : A} → Some x ≡ Some y → x ≡ y
some_inj e = cc

none : Operand
none = p.Literal v.Nothing

-- ---- comparisons
goes_on : (pre : Tokens) (a : Operand) → IsOperand pre a → Begins IsTest pre
unfolding none
goes_on pre a h = (l.Mark m.Equal ∷ l.Keyword k.None ∷ [], p.Same a none, g.same h none_is)

right_owes : (f : Tokens → Reading Pred) (make : Operand → Pred) (t : Lexeme) (pre ts : Tokens) → ((us : Tokens) → f (t ∷ us) ≡ mapped make (operand us))
    → ((us : Tokens) (b : Operand) → IsOperand us b → IsTest (pre ++ t ∷ us) (make b)) → Owes IsTest f pre (t ∷ ts) (mapped make (operand ts))
right_owes f make t pre ts e is = go_owes IsTest f (λ us. mapped make (operand us)) pre t ts (mapped make (operand ts)) e
    (mapped_owes IsOperand IsTest operand make [] (pre ++ t ∷ []) ts (operand ts) (operand_reads ts) (λ mid b q. rw (append_assoc pre (t ∷ []) mid) (is mid b q)))

compared_owes : (pre ts : Tokens) (a : Operand) → IsOperand pre a → Owes IsTest (compared a) pre ts (compared a ts)
compared_owes pre [] a h = refuse_end_owes IsTest (compared a) pre Syntax (goes_on pre a h) refl
compared_owes pre (l.Mark m.Equal ∷ ts) a h = right_owes (compared a) (p.Same a) (l.Mark m.Equal) pre ts (λ us. refl) (λ us b q. g.same h q)
compared_owes pre (l.Mark m.Below ∷ ts) a h = right_owes (compared a) (p.Less a) (l.Mark m.Below) pre ts (λ us. refl) (λ us b q. g.below h q)
compared_owes pre (l.Keyword k.In ∷ ts) a h = right_owes (compared a) (p.Member a) (l.Keyword k.In) pre ts (λ us. refl) (λ us b q. g.member h q)
compared_owes pre (t ∷ ts) a h = refuse_at_owes IsTest (compared a) pre t ts Syntax (goes_on pre a h) (λ us. refl)

begins_comparison : (pre : Tokens) → Begins IsOperand pre → Begins IsTest pre
unfolding none
begins_comparison pre b = (b.0 ++ l.Mark m.Equal ∷ l.Keyword k.None ∷ [], p.Same b.1 none, rw (← append_assoc pre b.0 (l.Mark m.Equal ∷ l.Keyword k.None ∷ [])) (g.same b.2 none_is))

pub comparison_reads : Reads IsTest comparison
unfolding comparison
comparison_reads ts = bind_owes IsOperand IsTest operand compared [] [] ts (operand ts) (operand_reads ts) (λ a us mid h. compared_owes mid us a h) begins_comparison

-- ---- tests
close_square_owes : (pre us : Tokens) (a : Pred) → IsPred pre a → Owes IsTest (close_square a) (l.Mark m.OpenSquare ∷ pre) us (close_square a us)
close_square_owes pre [] a h = refuse_end_owes IsTest (close_square a) (l.Mark m.OpenSquare ∷ pre) Syntax (l.Mark m.CloseSquare ∷ [], a, g.bracketed h) refl
close_square_owes pre (l.Mark m.CloseSquare ∷ us) a h = take_owes IsTest (close_square a) (l.Mark m.OpenSquare ∷ pre) (l.Mark m.CloseSquare) us a (g.bracketed h) (λ vs. refl)
close_square_owes pre (t ∷ us) a h = refuse_at_owes IsTest (close_square a) (l.Mark m.OpenSquare ∷ pre) t us Syntax (l.Mark m.CloseSquare ∷ [], a, g.bracketed h) (λ vs. refl)

module _ (inner : Tokens → Reading Pred) (law : Reads IsPred inner) where
  pub plain_reads : Reads IsTest (plain_by inner)
  plain_reads [] = like_end_owes IsTest (plain_by inner) comparison (comparison []) refl (comparison_reads [])
  plain_reads (l.Keyword k.Tt ∷ ts) = take_owes IsTest (plain_by inner) [] (l.Keyword k.Tt) ts p.True g.always (λ us. refl)
  plain_reads (l.Keyword k.Ff ∷ ts) = take_owes IsTest (plain_by inner) [] (l.Keyword k.Ff) ts p.False g.never (λ us. refl)
  plain_reads (l.Mark m.OpenSquare ∷ ts) = go_owes IsTest (plain_by inner) (λ us. inner us >>= close_square) [] (l.Mark m.OpenSquare) ts (inner ts >>= close_square) (λ us. refl)
      (bind_owes IsPred IsTest inner close_square [] (l.Mark m.OpenSquare ∷ []) ts (inner ts) (law ts) (λ a us mid h. close_square_owes mid us a h)
      (λ mid b. (b.0 ++ l.Mark m.CloseSquare ∷ [], b.1, rw (← append_assoc mid b.0 (l.Mark m.CloseSquare ∷ [])) (g.bracketed b.2))))
  plain_reads (t ∷ ts) = like_owes IsTest (plain_by inner) comparison t ts (comparison (t ∷ ts)) (λ us. refl) (comparison_reads (t ∷ ts))

  pub test_by_reads : Reads IsTest (test_by inner)
  test_by_reads [] = like_end_owes IsTest (test_by inner) (plain_by inner) (plain_by inner []) refl (plain_reads [])
  test_by_reads (l.Keyword k.Not ∷ ts) = go_owes IsTest (test_by inner) (λ us. mapped p.Not (test_by inner us)) [] (l.Keyword k.Not) ts (mapped p.Not (test_by inner ts)) (λ us. refl)
      (mapped_owes IsTest IsTest (test_by inner) p.Not [] (l.Keyword k.Not ∷ []) ts (test_by inner ts) (test_by_reads ts) (λ mid a h. g.not h))
  test_by_reads (t ∷ ts) = like_owes IsTest (test_by inner) (plain_by inner) t ts (plain_by inner (t ∷ ts)) (λ us. refl) (plain_reads (t ∷ ts))

  and_is : (ts us : Tokens) (a b : Pred) (t : Lexeme) (f : Pred → Pred → Pred) → ands t ≡ Some f → IsBoth ts a → IsTest us b → IsBoth (ts ++ t ∷ us) (f a b)
  and_is ts us a b (l.Keyword k.And) f e h q = subst (λ (j : Pred → Pred → Pred). IsBoth (ts ++ l.Keyword k.And ∷ us) (j a b)) (some_inj e) (g.and h q)
  and_is ts us a b t f e h q = absurd (cc)

  pub both_by_reads : Reads IsBoth (both_by inner)
  both_by_reads = chain_reads Syntax (test_by inner) ands IsTest IsBoth test_by_reads (λ ts a h. g.test h) and_is

  or_is : (ts us : Tokens) (a b : Pred) (t : Lexeme) (f : Pred → Pred → Pred) → ors t ≡ Some f → IsPred ts a → IsBoth us b → IsPred (ts ++ t ∷ us) (f a b)
  or_is ts us a b (l.Keyword k.Or) f e h q = subst (λ (j : Pred → Pred → Pred). IsPred (ts ++ l.Keyword k.Or ∷ us) (j a b)) (some_inj e) (g.or h q)
  or_is ts us a b t f e h q = absurd (cc)

  pub pred_by_reads : Reads IsPred (pred_by inner)
  pred_by_reads = chain_reads Syntax (both_by inner) ors IsBoth IsPred both_by_reads (λ ts a h. g.both h) or_is

-- ---- predicates in brackets in predicates
abbrev Good : (Unit {0} → Tokens → Reading Pred) → Type 0
Good f = Reads IsPred (f tt)

times_read : (n : ℕ) → Good (times Syntax pred_step n)
times_read zero ts = refused ts
  where
    begins : Begins IsPred []
    begins = (l.Keyword k.Tt ∷ [], p.True, g.both (g.test g.always))

    refused : (ts : Tokens) → Owes IsPred (λ us. refuse us) [] ts (refuse ts)
    refused [] = refuse_end_owes IsPred (λ us. refuse us) [] Syntax begins refl
    refused (t ∷ ts) = refuse_at_owes IsPred (λ us. refuse us) [] t ts Syntax begins (λ us. refl)
times_read (suc n) ts = pred_by_reads (times Syntax pred_step n tt) (times_read n) ts

module _ (f g' : Tokens → Reading Pred) (lf : Reads IsPred f) (n : ℕ) (agree : (us : Tokens) → length us < n → f us ≡ g' us) where
  square-agree : (ts : Tokens) → length ts < n → (f ts >>= close_square) ≡ (g' ts >>= close_square)
  square-agree ts h = ap (λ (y : Reading Pred). y >>= close_square) (agree ts h)

  test-agree : (ts : Tokens) → length ts ≤ n → test_by f ts ≡ test_by g' ts
  test-agree [] h = refl
  test-agree (l.Keyword k.Not ∷ ts) h = ap (mapped p.Not) (test-agree ts (omega arith))
  test-agree (l.Mark m.OpenSquare ∷ ts) h = square-agree ts (omega arith)
  test-agree (t ∷ ts) h = refl

  both-agree : (ts : Tokens) → length ts ≤ n → both_by f ts ≡ both_by g' ts
  both-agree ts h = chain-agree Syntax (test_by f) (test_by g') ands (reads_leaves IsTest (test_by f) (test_by_reads f lf)) n test-agree ts h

  pred-agree : (ts : Tokens) → length ts ≤ n → pred_by f ts ≡ pred_by g' ts
  pred-agree ts h = chain-agree Syntax (both_by f) (both_by g') ors (reads_leaves IsBoth (both_by f) (both_by_reads f lf)) n both-agree ts h

pred-guarded : Guarded Good pred_step
pred-guarded f g' q r u ts agree = pred-agree (f tt) (g' tt) q (length ts) (λ us lt. agree tt us lt) ts (omega arith)

pub pred_reads : Reads IsPred pred
unfolding pred
pred_reads ts = again_owes Syntax pred_step Good pred-guarded times_read IsPred [] tt ts (λ n. times_read n ts)

-- a predicate is joined by `or`, and the predicates in brackets are predicates again
pub pred-eq : (ts : Tokens) → pred ts ≡ chain Syntax both ors ts
unfolding pred both
pred-eq ts = again-step Syntax pred_step Good pred-guarded times_read pred_reads tt ts
