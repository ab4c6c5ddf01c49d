-- What the limits that predicates and programs share come to at a token, and how tests are gone through.
use Rattle.std.proofs.Common.{◌≡◌, ℕ, zero, suc, ◌<◌, ◌≤◌, ◌⊎◌, Bool, true, false, List, [], ◌∷◌, ◌++◌, length, take, Option, Some, None, refl, ap, ◌∙◌, subst, arith}
use Rattle.std.specs.Prelude.{fold, slice_get, ◌&&◌, nat_le, if◌then◌else◌}
use Rattle.std.proofs.lemmas.Bool.Decides.{nat_tests}
use Rattle.std.proofs.lemmas.Option.{slice_get_within}
use Rattle.abc_cause.specs.declared.Cause.{Cause}
use Rattle.abc_cause.specs.declared.Cause.TheVariants as cause
use Rattle.abc_grammar.specs.declared.lexemes.Lexeme.{Lexeme}
use Rattle.abc_grammar.specs.declared.lexemes.Lexeme.TheVariants as l
use Rattle.abc_text.specs.declared.words.Mark.TheVariants as m
use Rattle.abc_grammar.specs.declared.limits.TheConstants.{MOST_OPEN, MOST_WRITTEN}
use Rattle.abc_grammar.specs.Limits.{At, opens, open_behind, IsTooDeep, BeginsExtraScalar, BeginsExtraExpr, BeginsExtraVariable}
use Rattle.abc_grammar.specs.Refusals.{PassesLimit, order}
use Rattle.abc_limits.specs.declared.scalars.Written.{Written}
use Rattle.abc_limits.specs.declared.scalars.Written.TheVariants.{Outside, Expects, Signed, Counted}
use Rattle.abc_limits.specs.Written.{is_full, written_behind}
use Rattle.abc_limits.proofs.Written.{Means, written_means, expects_listing, listing_counts}

pub some_inj : {A : Type 0} {x y : A} → Some x ≡ Some y → x ≡ y
some_inj e = cc

pub not_both : (b : Bool) → b ≡ true → b ≡ false → ⊥
not_both b e f = cc

-- ---- tests one after another
-- the answer of the first test that is true, or what comes behind it
pub pick : {A : Type 0} (P : A → Type 0) (test : Bool) (x : A) (rest : Option A) → (test ≡ true → P x) →
    (test ≡ false → (y : A) → rest ≡ Some y → P y) → (y : A) → (if test then Some x else rest) ≡ Some y → P y
pick P true x rest hit miss y e = subst P (some_inj e) (hit refl)
pick P false x rest hit miss y e = miss refl y e

pub missed : {A : Type 0} (test : Bool) (x : A) (rest : Option A) → (if test then Some x else rest) ≡ None →
    (test ≡ false) × (rest ≡ None)
missed true x rest e = absurd (cc)
missed false x rest e = (refl, e)

-- where none of the limits before the n-th of the order is passed
pub none_below :
    (IsWhole : List Lexeme → Type 0) (IsOneTooMany : List Lexeme → ℕ → Type 0) (n : ℕ) (ts : List Lexeme) (k : ℕ) →
    (2 < n → ¬ IsTooDeep ts k) → (3 < n → ¬ IsOneTooMany ts k) →
    (4 < n → ¬ (BeginsExtraExpr IsWhole ts k ⊎ BeginsExtraVariable IsWhole ts k)) → (5 < n → ¬ BeginsExtraScalar ts k) →
    (d : Cause) → order d < n → ¬ PassesLimit IsWhole IsOneTooMany d ts k
none_below W M n ts k deep large tuple set cause.TooDeep lt h = deep lt h
none_below W M n ts k deep large tuple set cause.TooLarge lt h = large lt h
none_below W M n ts k deep large tuple set cause.LongTuple lt h = tuple lt h
none_below W M n ts k deep large tuple set cause.LongSet lt h = set lt h
none_below W M n ts k deep large tuple set cause.BadByte lt h = h
none_below W M n ts k deep large tuple set cause.BadText lt h = h
none_below W M n ts k deep large tuple set cause.LongText lt h = h
none_below W M n ts k deep large tuple set cause.LongName lt h = h
none_below W M n ts k deep large tuple set cause.WideNumber lt h = h
none_below W M n ts k deep large tuple set cause.Syntax lt h = h
none_below W M n ts k deep large tuple set (cause.Check c) lt h = h

pub order_small : (d : Cause) → order d < 7
order_small cause.TooDeep = omega arith
order_small cause.TooLarge = omega arith
order_small cause.LongTuple = omega arith
order_small cause.LongSet = omega arith
order_small cause.BadByte = omega arith
order_small cause.BadText = omega arith
order_small cause.LongText = omega arith
order_small cause.LongName = omega arith
order_small cause.WideNumber = omega arith
order_small cause.Syntax = omega arith
order_small (cause.Check c) = omega arith

-- ---- tests
pub and_true : (a b : Bool) → (a && b) ≡ true → (a ≡ true) × (b ≡ true)
and_true true true e = (refl, refl)
and_true true false e = absurd (cc)
and_true false b e = absurd (cc)

pub both_true : (a b : Bool) → a ≡ true → b ≡ true → (a && b) ≡ true
both_true true true e f = refl
both_true true false e f = absurd (cc)
both_true false b e f = absurd (cc)

pub le_true : (m n : ℕ) → nat_le m n ≡ true → m ≤ n
le_true m n e = grind (arith, nat_tests)

pub true_le : (m n : ℕ) → m ≤ n → nat_le m n ≡ true
true_le m n h = grind (arith, nat_tests)

-- ---- tokens by their numbers
pub got : (ts : List Lexeme) (k : ℕ) → k < length ts → (t : Lexeme) × (slice_get ts k ≡ Some t)
got [] k h = absurd (omega arith)
got (t ∷ ts) zero h = (t, refl)
got (t ∷ ts) (suc k) h = got ts k (omega arith)

pub take_none : (ts : List Lexeme) → take 0 ts ≡ []
take_none [] = refl
take_none (t ∷ ts) = refl

pub take_more : (ts : List Lexeme) (k : ℕ) (t : Lexeme) → slice_get ts k ≡ Some t →
    take (suc k) ts ≡ take k ts ++ t ∷ []
take_more [] k t e = absurd (cc)
take_more (u ∷ ts) zero t e = ap (λ (v : Lexeme). v ∷ []) (some_inj e)
take_more (u ∷ ts) (suc k) t e = ap (λ (us : List Lexeme). u ∷ us) (take_more ts k t e)

pub at_is : (ts : List Lexeme) (n : ℕ) (t : Lexeme) (is : Lexeme → Bool) → slice_get ts n ≡ Some t → is t ≡ true →
    At ts n is
at_is ts n t is e h = rw e h

pub is_at : (ts : List Lexeme) (n : ℕ) (t : Lexeme) (is : Lexeme → Bool) → slice_get ts n ≡ Some t → At ts n is →
    is t ≡ true
is_at ts n t is e h = rw e at h

-- ---- each limit
full_expects : (w : Written) → is_full w ≡ true → w ≡ Expects MOST_WRITTEN
full_expects Outside e = absurd (cc)
full_expects (Expects i) e = let same : i ≡ MOST_WRITTEN = grind (arith, nat_tests) in ap Expects same
full_expects (Signed i) e = absurd (cc)
full_expects (Counted i) e = absurd (cc)

module _ (ts : List Lexeme) (n : ℕ) (t : Lexeme) (stands : slice_get ts n ≡ Some t) where
  pub deep_is : (opens t && nat_le MOST_OPEN (open_behind 0 (take n ts))) ≡ true → IsTooDeep ts n
  deep_is e =
      let p = and_true (opens t) (nat_le MOST_OPEN (open_behind 0 (take n ts))) e in
      record { opener = at_is ts n t opens stands p.0; full = le_true MOST_OPEN (open_behind 0 (take n ts)) p.1 }

  pub is_deep : IsTooDeep ts n → (opens t && nat_le MOST_OPEN (open_behind 0 (take n ts))) ≡ true
  is_deep h = both_true (opens t) (nat_le MOST_OPEN (open_behind 0 (take n ts))) (is_at ts n t opens stands h.opener)
      (true_le MOST_OPEN (open_behind 0 (take n ts)) h.full)

  pub set_is : is_full (fold written_behind Outside (take n ts)) ≡ true → BeginsExtraScalar ts n
  set_is e =
      let w = full_expects (fold written_behind Outside (take n ts)) e in
      let means = subst (λ (v : Written). Means v (take n ts)) w (written_means (take n ts)) in
      let r = expects_listing MOST_WRITTEN (take n ts) (omega arith) means in
      let g = r.2 in
      record {
        exists = slice_get_within ts n t stands;
        before = g.before;
        parts = g.parts;
        scalars = g.scalars;
        listed = g.listed;
        full = g.count;
        stands = r.1 ∙ ap (λ (vs : List Lexeme). vs ++ l.Mark m.Comma ∷ []) g.stands;
      }

  pub is_set : BeginsExtraScalar ts n → is_full (fold written_behind Outside (take n ts)) ≡ true
  is_set h =
      ap is_full (ap (fold written_behind Outside) h.stands ∙ listing_counts h.before h.parts h.scalars h.listed
      ∙ ap Expects h.full)
