-- The first token of a predicate at which going over the tokens finds a limit passed is the first that passes one.
use Rattle.std.proofs.Common.{◌≡◌, ℕ, zero, suc, ◌+◌, ◌<◌, ◌⊎◌, inl, inr, Bool, true, false, List, [], ◌∷◌, take, Option, Some, None, refl, sym, ap, ◌∙◌, subst, arith}
use Rattle.std.specs.Prelude.{fold, slice_get, ◌&&◌, nat_le, if◌then◌else◌}
use Rattle.abc_cause.specs.declared.Cause.{Cause}
use Rattle.abc_cause.specs.declared.Cause.TheVariants as cause
use Rattle.abc_grammar.specs.declared.lexemes.Lexeme.{Lexeme}
use Rattle.abc_grammar.specs.declared.limits.TheConstants.{MOST_OPEN, MOST_TOKENS}
use Rattle.abc_grammar.specs.Limits.{opens, open_behind, IsTooDeep, BeginsExtraScalar, BeginsExtraToken, BeginsExtraExpr, BeginsExtraVariable}
use Rattle.abc_grammar.specs.Sizes.{counts, spot_behind, size_from}
use Rattle.abc_grammar.specs.Sizes as sizes
use Rattle.abc_grammar.specs.Refusals.{PassesLimit, IsSomePred, order}
use Rattle.abc_limits.specs.declared.scalars.Written.TheVariants.{Outside}
use Rattle.abc_limits.specs.Written.{is_full, written_behind}
use Rattle.abc_limits.specs.Limiting.{State, start, step, passed, larger, first_by, first_from}
use Rattle.abc_limits.proofs.NoTuples.{no_extra_expr, no_extra_variable}
use Rattle.abc_limits.proofs.Passing.{some_inj, not_both, pick, missed, none_below, order_small, and_true, both_true, le_true, true_le, at_is, is_at, deep_is, is_deep, set_is, is_set}

-- ---- the first
pub first_none : (s : State) (i : ℕ) (ts : List Lexeme) → first_from s i ts ≡ None → (n : ℕ) (t : Lexeme) →
    slice_get ts n ≡ Some t → passed (fold step s (take n ts)) t ≡ None
first_none s i [] h n t e = absurd (cc)
first_none s i (u ∷ ts) h zero t e = go (passed s u) refl h
  where
    go : (o : Option Cause) → passed s u ≡ o → first_by o i (first_from (step s u) (i + 1) ts) ≡ None →
        passed s t ≡ None
    go None q h = ap (passed s) (sym (some_inj e)) ∙ q
    go (Some c) q h = absurd (cc)
first_none s i (u ∷ ts) h (suc n) t e = first_none (step s u) (i + 1) ts (go (passed s u) h) n t e
  where
    go : (o : Option Cause) → first_by o i (first_from (step s u) (i + 1) ts) ≡ None →
        first_from (step s u) (i + 1) ts ≡ None
    go None h = h
    go (Some c) h = absurd (cc)

pub record IsFirstPassed (s : State) (i : ℕ) (ts : List Lexeme) (n : ℕ) (c : Cause) : Type 0 where
  pub place : ℕ
  pub counted : n ≡ i + place
  pub token : Lexeme
  pub stands : slice_get ts place ≡ Some token
  pub passes : passed (fold step s (take place ts)) token ≡ Some c
  pub least : (j : ℕ) → j < place → (u : Lexeme) → slice_get ts j ≡ Some u →
      passed (fold step s (take j ts)) u ≡ None

pub first_some : (s : State) (i : ℕ) (ts : List Lexeme) (n : ℕ) (c : Cause) → first_from s i ts ≡ Some (n, c) →
    IsFirstPassed s i ts n c
first_some s i [] n c h = absurd (cc)
first_some s i (u ∷ ts) n c h = go (passed s u) refl h (λ r. first_some (step s u) (i + 1) ts n c r)
  where
    pair_inj : {x y : ℕ × Cause} → Some x ≡ Some y → x ≡ y
    pair_inj e = cc

    go : (o : Option Cause) → passed s u ≡ o → first_by o i (first_from (step s u) (i + 1) ts) ≡ Some (n, c) →
        (first_from (step s u) (i + 1) ts ≡ Some (n, c) → IsFirstPassed (step s u) (i + 1) ts n c) →
        IsFirstPassed s i (u ∷ ts) n c
    go (Some d) q h more =
        let same = pair_inj h in
        let d_is : d ≡ c = ap (λ (x : ℕ × Cause). x.1) same in
        record {
          place = 0;
          counted = omega (arith, ap (λ (x : ℕ × Cause). x.0) same);
          token = u;
          stands = refl;
          passes = q ∙ ap (λ (x : Cause). Some x) d_is;
          least = λ j lt v e. absurd (omega arith);
        }
    go None q h more =
        let r = more h in
        record {
          place = suc r.place;
          counted = omega (arith, r.counted);
          token = r.token;
          stands = r.stands;
          passes = r.passes;
          least = λ j lt v e. before (λ i' lt' v' e'. r.least i' lt' v' e') q j lt v e;
        }
      where
        before :
            {p : ℕ} →
            ((j : ℕ) → j < p → (v : Lexeme) → slice_get ts j ≡ Some v →
            passed (fold step (step s u) (take j ts)) v ≡ None) →
            passed s u ≡ None → (j : ℕ) → j < suc p → (v : Lexeme) → slice_get (u ∷ ts) j ≡ Some v →
            passed (fold step s (take j (u ∷ ts))) v ≡ None
        before least q zero lt v e = ap (passed s) (sym (some_inj e)) ∙ q
        before least q (suc j) lt v e = least j (omega arith) v e

-- ---- what the tokens before come to
depth_behind : (s : State) (ts : List Lexeme) → (fold step s ts).depth ≡ open_behind s.depth ts
depth_behind s [] = refl
depth_behind s (t ∷ ts) = depth_behind (step s t) ts

spot_is : (s : State) (ts : List Lexeme) → (fold step s ts).spot ≡ fold spot_behind s.spot ts
spot_is s [] = refl
spot_is s (t ∷ ts) = spot_is (step s t) ts

larger_is : (b : Bool) (n m : ℕ) → larger n b + m ≡ n + ((if b then 1 else 0) + m)
larger_is true n m = omega arith
larger_is false n m = omega arith

size_is : (s : State) (ts : List Lexeme) → (fold step s ts).size ≡ s.size + size_from s.spot ts
size_is s [] = omega arith
size_is s (t ∷ ts) = size_is (step s t) ts ∙ larger_is (counts s.spot t) s.size (size_from (spot_behind s.spot t) ts)

written_is : (s : State) (ts : List Lexeme) → (fold step s ts).written ≡ fold written_behind s.written ts
written_is s [] = refl
written_is s (t ∷ ts) = written_is (step s t) ts

-- ---- at one token
module _ (ts : List Lexeme) (n : ℕ) (t : Lexeme) (stands : slice_get ts n ≡ Some t) where
  abbrev here : State
  here = fold step start (take n ts)

  abbrev deep : Bool
  deep = opens t && nat_le MOST_OPEN here.depth

  abbrev large : Bool
  large = counts here.spot t && nat_le MOST_TOKENS here.size

  -- what is answered where the tests before fail
  abbrev by_set : Option Cause
  by_set = if is_full here.written then Some cause.LongSet else None

  abbrev by_size : Option Cause
  by_size = if large then Some cause.TooLarge else by_set

  deep_same : deep ≡ (opens t && nat_le MOST_OPEN (open_behind 0 (take n ts)))
  deep_same = ap (λ (i : ℕ). opens t && nat_le MOST_OPEN i) (depth_behind start (take n ts))

  full_same : is_full here.written ≡ is_full (fold written_behind Outside (take n ts))
  full_same = ap is_full (written_is start (take n ts))

  large_is : large ≡ true → BeginsExtraToken ts n
  large_is e =
      let p = and_true (counts here.spot t) (nat_le MOST_TOKENS here.size) e in
      let le = le_true MOST_TOKENS here.size p.1 in
      let s = size_is start (take n ts) in
      record {
        counted = at_is ts n t (counts (fold spot_behind sizes.Free (take n ts))) stands
            (subst (λ (x : sizes.Spot). counts x t ≡ true) (spot_is start (take n ts)) p.0);
        full = omega (arith, le, s);
      }

  is_large : BeginsExtraToken ts n → large ≡ true
  is_large h =
      let s = size_is start (take n ts) in
      both_true (counts here.spot t) (nat_le MOST_TOKENS here.size)
      (subst (λ (x : sizes.Spot). counts x t ≡ true) (sym (spot_is start (take n ts)))
      (is_at ts n t (counts (fold spot_behind sizes.Free (take n ts))) stands h.counted))
      (true_le MOST_TOKENS here.size (omega (arith, s, h.full)))

  not_deep : deep ≡ false → ¬ IsTooDeep ts n
  not_deep e h = not_both deep (deep_same ∙ is_deep ts n t stands h) e

  not_large : large ≡ false → ¬ BeginsExtraToken ts n
  not_large e h = not_both large (is_large h) e

  not_set : is_full here.written ≡ false → ¬ BeginsExtraScalar ts n
  not_set e h = not_both (is_full here.written) (full_same ∙ is_set ts n t stands h) e

  no_tuple : ¬ (BeginsExtraExpr IsSomePred ts n ⊎ BeginsExtraVariable IsSomePred ts n)
  no_tuple (inl h) = no_extra_expr ts n h
  no_tuple (inr h) = no_extra_variable ts n h

  pub passes_none : passed here t ≡ None → (d : Cause) → PassesLimit IsSomePred BeginsExtraToken d ts n → ⊥
  passes_none e d h =
      let a = missed deep cause.TooDeep by_size e in
      let b = missed large cause.TooLarge by_set a.1 in
      let c = missed (is_full here.written) cause.LongSet None b.1 in
      none_below IsSomePred BeginsExtraToken 7 ts n (λ lt. not_deep a.0) (λ lt. not_large b.0) (λ lt. no_tuple)
      (λ lt. not_set c.0) d (order_small d) h

  -- a limit is passed, and none before it in the order of causes
  abbrev IsFirst : Cause → Type 0
  IsFirst c =
      PassesLimit IsSomePred BeginsExtraToken c ts n ×
      ((d : Cause) → order d < order c → ¬ PassesLimit IsSomePred BeginsExtraToken d ts n)

  first_of_deep : deep ≡ true → IsFirst cause.TooDeep
  first_of_deep e = (
    deep_is ts n t stands (sym deep_same ∙ e),
    none_below IsSomePred BeginsExtraToken 2 ts n (λ lt h. omega arith) (λ lt h. omega arith) (λ lt h. omega arith)
        (λ lt h. omega arith),
  )

  first_of_large : deep ≡ false → large ≡ true → IsFirst cause.TooLarge
  first_of_large a e = (
    large_is e,
    none_below IsSomePred BeginsExtraToken 3 ts n (λ lt. not_deep a) (λ lt h. omega arith) (λ lt h. omega arith)
        (λ lt h. omega arith),
  )

  first_of_set : deep ≡ false → large ≡ false → is_full here.written ≡ true → IsFirst cause.LongSet
  first_of_set a b e = (
    set_is ts n t stands (sym full_same ∙ e),
    none_below IsSomePred BeginsExtraToken 5 ts n (λ lt. not_deep a) (λ lt. not_large b) (λ lt. no_tuple)
        (λ lt h. omega arith),
  )

  none_some : (c : Cause) → None ≡ Some c → ⊥
  none_some c e = cc

  is_first : (c : Cause) → passed here t ≡ Some c → IsFirst c
  is_first =
      pick IsFirst deep cause.TooDeep by_size first_of_deep (λ a.
      pick IsFirst large cause.TooLarge by_set (first_of_large a) (λ b.
      pick IsFirst (is_full here.written) cause.LongSet None (first_of_set a b) (λ f c e. absurd (none_some c e))))

  pub passes_limit : (c : Cause) → passed here t ≡ Some c → PassesLimit IsSomePred BeginsExtraToken c ts n
  passes_limit c e = (is_first c e).0

  pub passes_first : (c : Cause) → passed here t ≡ Some c → (d : Cause) → order d < order c →
      PassesLimit IsSomePred BeginsExtraToken d ts n → ⊥
  passes_first c e = (is_first c e).1
