-- What trying to read comes to, before the first token that passes a limit and with it.
use Rattle.std.proofs.Common.{◌≡◌, ℕ, zero, suc, ◌+◌, ◌<◌, ◌≤◌, inl, inr, [], ◌∷◌, ◌++◌, length, take, Some, None, refl, sym, ap, ◌∙◌, subst, append_assoc, append-nil, length-append, add-one, arith}
use Rattle.std.specs.Prelude.{slice_get}
use Rattle.abc_pred.specs.Terms.{Pred}
use Rattle.abc_pred.specs.Standing.{pred_of}
use Rattle.abc_pred.specs.declared.syntax.Pred.{Pred as HeldPred}
use Rattle.abc_cause.specs.declared.Cause.{Cause}
use Rattle.abc_cause.specs.declared.Cause.TheVariants as cause
use Rattle.abc_grammar.specs.declared.lexemes.Lexeme.{Lexeme}
use Rattle.abc_grammar.specs.Preds.{IsPred}
use Rattle.abc_grammar.specs.Limits.{Begins}
use Rattle.abc_grammar.specs.Limits.{BeginsExtraToken}
use Rattle.abc_grammar.specs.Refusals.{order, IsSomePred, PassesLimit}
use Rattle.abc_grammar.specs.Fronts.{IsFront, IsLongest, HasNoFront}
use Rattle.abc_reading.specs.Reading.{Refused}
use Rattle.abc_reading.proofs.Laws.{first}
use Rattle.abc_parse.specs.declared.front.Tried.TheVariants as tried
use Rattle.abc_parse.specs.declared.front.Front.TheVariants as front
use Rattle.abc_readers.specs.Operands.{Tokens}
use Rattle.abc_readers.specs.Preds.{pred}
use Rattle.abc_limits.specs.Limiting.{start, first_limit}
use Rattle.abc_parse.specs.Fronting.{IsTried, IsFrontOf}
use Rattle.abc_limits.proofs.LimitLaws.{first_none, first_some, passes_limit, passes_none, passes_first}
use Rattle.abc_parse.proofs.Lists.{take_front, take_split, take_length, take_all, one_of}
use Rattle.abc_parse.proofs.Causes.{NoLimits, begins_front, syntax_at, limit_at, end_at}
use Rattle.abc_parse.proofs.Exact.{IsPart, owed, reached, read_part, cut_part, wrong_token}

-- ---- where the first limit is passed
got : (ts : Tokens) (k : ℕ) → k < length ts → (t : Lexeme) × (slice_get ts k ≡ Some t)
got [] k h = absurd (omega arith)
got (t ∷ ts) zero h = (t, refl)
got (t ∷ ts) (suc k) h = got ts k (omega arith)

-- so many tokens pass no limit, and no front that is a predicate within its limits is longer
pub record Bounds (ts : Tokens) (d : ℕ) : Type 0 where
  pub exists : d ≤ length ts
  pub none : NoLimits IsSomePred BeginsExtraToken ts d
  pub most : (m : ℕ) (q : Pred) → IsFront ts m q → m ≤ d

pub without_limit : (ts : Tokens) → first_limit ts ≡ None → Bounds ts (length ts)
unfolding first_limit
without_limit ts e = record {
  exists = omega arith;
  none = λ k lt c. let g = got ts k lt in passes_none ts k g.0 g.1 (first_none start 0 ts e k g.0 g.1) c;
  most = λ m q h. h.exists;
}

-- what the first limit is
pub record IsFirstLimit (ts : Tokens) (n : ℕ) (c : Cause) : Type 0 where
  pub exists : n < length ts
  pub bounds : Bounds ts n
  pub passes : PassesLimit IsSomePred BeginsExtraToken c ts n
  pub first : (d : Cause) → order d < order c → PassesLimit IsSomePred BeginsExtraToken d ts n → ⊥

in_range : (ts : Tokens) (k : ℕ) (t : Lexeme) → slice_get ts k ≡ Some t → k < length ts
in_range [] k t e = absurd (cc)
in_range (u ∷ ts) zero t e = omega arith
in_range (u ∷ ts) (suc k) t e = let lt = in_range ts k t e in omega arith

at_most : (m n : ℕ) → (n < m → ⊥) → m ≤ n
at_most zero n h = omega arith
at_most (suc m) zero h = absurd (h (omega arith))
at_most (suc m) (suc n) h = let le = at_most m n (λ lt. h (omega arith)) in omega arith

pub with_limit : (ts : Tokens) (n : ℕ) (c : Cause) → first_limit ts ≡ Some (n, c) → IsFirstLimit ts n c
unfolding first_limit
with_limit ts n c e =
    let h = first_some start 0 ts n c e in
    let same : h.place ≡ n = omega (arith, h.counted) in
    subst (λ (i : ℕ). IsFirstLimit ts i c) same (record {
      exists = in_range ts h.place h.token h.stands;
      bounds = record {
        exists = let lt = in_range ts h.place h.token h.stands in omega arith;
        none = λ k lt d. let range = in_range ts h.place h.token h.stands in let g = got ts k (omega arith) in passes_none ts k g.0 g.1 (h.least k lt g.0 g.1) d;
        most = λ m q f. at_most m h.place (λ lt. f.within h.place lt c (passes_limit ts h.place h.token h.stands c h.passes));
      };
      passes = passes_limit ts h.place h.token h.stands c h.passes;
      first = passes_first ts h.place h.token h.stands c h.passes;
    })

-- ---- a front was found
found_part : (ts : Tokens) (d n : ℕ) (p : Pred) (rest : Tokens) → Bounds ts d → n + length rest ≡ length (take d ts) → IsPart (take d ts) p rest → IsLongest ts n p
found_part ts d n p rest b e part =
    let long = take_length d ts b.exists in
    let n_is : length part.mid ≡ n = omega (arith, ap (length {A = Lexeme}) part.whole, length-append {A = Lexeme} part.mid rest, e) in
    let stands : take n ts ≡ part.mid = subst (λ (i : ℕ). take i ts ≡ part.mid) n_is (take_front d ts part.mid rest part.whole) in
    record {
      front = record {
        exists = let le = b.exists in omega (arith, long, e, le);
        pred = subst (λ (us : Tokens). IsPred us p) (sym stands) part.is;
        within = λ k lt c. b.none k (omega (arith, long, e, lt)) c;
      };
      longest = λ m q h.
          let le = b.most m q h in
          let r = take_split m d ts le in
          let shorter = part.most (take m ts) r.0 q r.1 h.pred in
          let m_is = take_length m ts h.exists in
          omega (arith, long, e, shorter, m_is, ap (length {A = Lexeme}) r.1, length-append {A = Lexeme} (take m ts) r.0);
    }

pub found : (ts : Tokens) (d n : ℕ) (p : HeldPred) → Bounds ts d → IsTried (take d ts) (tried.Pred p n) → IsLongest ts n (pred_of p)
found ts d n p b (rest, e, inl h) = found_part ts d n (pred_of p) rest b e (read_part (take d ts) (pred_of p) rest h)
found ts d n p b (rest, e, inr h) = found_part ts d n (pred_of p) rest b e (cut_part (take d ts) (pred_of p) rest h.0 h.1 h.2)

-- ---- none was found
no_front : (ts : Tokens) (d : ℕ) (c : Cause) (vs : Tokens) → Bounds ts d → pred (take d ts) ≡ Refused c vs → HasNoFront ts
no_front ts d c vs b e m q h =
    let r = take_split m d ts (b.most m q h) in
    reached (take d ts) (take m ts) r.0 q (Refused c vs) r.1 h.pred e

pub refused : (ts : Tokens) (d n : ℕ) → Bounds ts d → IsTried (take d ts) (tried.Refused n) → IsFrontOf ts (front.Refused n cause.Syntax)
refused ts d n b (c, vs, e, len, some) =
    let h = owed (take d ts) (Refused c vs) e in
    let o = one_of vs some in
    let long = take_length d ts b.exists in
    let n_is : length h.mid ≡ n = omega (arith, ap (length {A = Lexeme}) h.whole, length-append {A = Lexeme} h.mid vs, len) in
    let stands : take n ts ≡ h.mid = subst (λ (i : ℕ). take i ts ≡ h.mid) n_is (take_front d ts h.mid vs h.whole) in
    let whole' : take d ts ≡ (h.mid ++ o.0 ∷ []) ++ o.1 = h.whole ∙ ap (λ (us : Tokens). h.mid ++ us) o.2 ∙ sym (append_assoc h.mid (o.0 ∷ []) o.1) in
    let more_is : length (h.mid ++ o.0 ∷ []) ≡ n + 1 = length-append {A = Lexeme} h.mid (o.0 ∷ []) ∙ ap (λ (i : ℕ). i + 1) n_is in
    let stands' : take (n + 1) ts ≡ h.mid ++ o.0 ∷ [] = subst (λ (i : ℕ). take i ts ≡ h.mid ++ o.0 ∷ []) more_is (take_front d ts (h.mid ++ o.0 ∷ []) o.1 whole') in
    let range : n < d = omega (arith, len, long, some) in
    let le = b.exists in
    let begins : Begins IsSomePred h.mid = (h.begins.0, (h.begins.1, h.begins.2)) in (
      no_front ts d c vs b e,
      omega (arith, range, le),
      λ fault. syntax_at IsSomePred BeginsExtraToken ts fault n (omega (arith, range, le)) (subst (λ (us : Tokens). Begins IsSomePred us) (sym stands) begins) (λ k lt x. b.none k (omega (arith, lt, range)) x)
          (λ g. wrong_token h.mid o.1 o.0 c (λ ws k. h.same ws (k ∙ sym (ap first o.2))) (subst (λ (us : Tokens). Begins IsSomePred us) stands' g)),
    )

-- all the tokens begin a predicate
pub ends : (ts : Tokens) → Bounds ts (length ts) → IsTried (take (length ts) ts) tried.Ends → IsFrontOf ts front.Ends
ends ts b (c, e) =
    let e' : pred ts ≡ Refused c [] = subst (λ (us : Tokens). pred us ≡ Refused c []) (take_all ts) e in
    let h = owed ts (Refused c []) e' in
    let begins : Begins IsSomePred ts = (h.begins.0, (h.begins.1, subst (λ (us : Tokens). IsPred (us ++ h.begins.0) h.begins.1) (sym (h.whole ∙ append-nil h.mid)) h.begins.2)) in (
      no_front ts (length ts) c [] b e,
      λ fault lexical. end_at IsSomePred BeginsExtraToken ts fault lexical begins b.none (λ p. reached ts ts [] p.0 (Refused c []) (sym (append-nil ts)) p.1 e'),
    )

-- ---- with the token that passes a limit
module _ (ts : Tokens) (n : ℕ) (c : Cause) (limit : IsFirstLimit ts n c) (before : IsTried (take n ts) tried.Ends) where
  none_before : HasNoFront ts
  none_before = no_front ts n before.0 [] limit.bounds before.1

  -- no front of the tokens before it is a predicate
  none_within : (mid us : Tokens) (q : Pred) → take n ts ≡ mid ++ us → IsPred mid q → ⊥
  none_within mid us q w h = reached (take n ts) mid us q (Refused before.0 []) w h before.1

  begins_before : Begins IsSomePred (take n ts)
  begins_before = let h = owed (take n ts) (Refused before.0 []) before.1 in
      (h.begins.0, (h.begins.1, subst (λ (us : Tokens). IsPred (us ++ h.begins.0) h.begins.1) (sym (h.whole ∙ append-nil h.mid)) h.begins.2))

  one_more : (t : Lexeme) × (take (n + 1) ts ≡ take n ts ++ t ∷ [])
  one_more = rw add-one (more n ts limit.exists)
    where
      more : (i : ℕ) (us : Tokens) → i < length us → (t : Lexeme) × (take (suc i) us ≡ take i us ++ t ∷ [])
      more i [] h = absurd (omega arith)
      more zero (u ∷ us) h = (u, refl)
      more (suc i) (u ∷ us) h = let r = more i us (omega arith) in (r.0, ap (λ (vs : Tokens). u ∷ vs) r.1)

  limit_applies : Begins IsSomePred (take (n + 1) ts) → IsFrontOf ts (front.Refused n c)
  limit_applies b = (none_before, limit.exists, λ fault. limit_at IsSomePred BeginsExtraToken ts fault n c limit.exists b limit.bounds.none limit.passes limit.first)

  -- a front of these tokens that is a predicate is all of them
  whole_front : (mid us : Tokens) (q : Pred) → take (n + 1) ts ≡ mid ++ us → IsPred mid q → Begins IsSomePred (take (n + 1) ts)
  whole_front mid [] q w h = ([], (q, subst (λ (vs : Tokens). IsPred (vs ++ []) q) (sym (w ∙ append-nil mid)) (rw append-nil h)))
  whole_front mid (u ∷ us) q w h =
      let range = limit.exists in
      let all : length (take (n + 1) ts) ≡ n + 1 = take_length (n + 1) ts (omega (arith, range)) in
      let lt : length mid ≤ n = omega (arith, ap (length {A = Lexeme}) w, length-append {A = Lexeme} mid (u ∷ us), all) in
      let stands = take_front (n + 1) ts mid (u ∷ us) w in
      let r = take_split (length mid) n ts lt in
      absurd (none_within mid r.0 q (r.1 ∙ ap (λ (vs : Tokens). vs ++ r.0) stands) h)

  pub limit_found : (p : HeldPred) (m : ℕ) → IsTried (take (n + 1) ts) (tried.Pred p m) → IsFrontOf ts (front.Refused n c)
  limit_found p m (rest, e, inl h) = let q = read_part (take (n + 1) ts) (pred_of p) rest h in limit_applies (whole_front q.mid rest (pred_of p) q.whole q.is)
  limit_found p m (rest, e, inr h) = let q = cut_part (take (n + 1) ts) (pred_of p) rest h.0 h.1 h.2 in limit_applies (whole_front q.mid rest (pred_of p) q.whole q.is)

  pub limit_ends : IsTried (take (n + 1) ts) tried.Ends → IsFrontOf ts (front.Refused n c)
  limit_ends (d, e) = let h = owed (take (n + 1) ts) (Refused d []) e in
      limit_applies (h.begins.0, (h.begins.1, subst (λ (us : Tokens). IsPred (us ++ h.begins.0) h.begins.1) (sym (h.whole ∙ append-nil h.mid)) h.begins.2))

  pub limit_refused : (m : ℕ) → IsTried (take (n + 1) ts) (tried.Refused m) → IsFrontOf ts (front.Refused n cause.Syntax)
  limit_refused m (d, vs, e, len, some) =
      (none_before, limit.exists, λ fault. syntax_at IsSomePred BeginsExtraToken ts fault n limit.exists begins_before limit.bounds.none wrong)
    where
      wrong : Begins IsSomePred (take (n + 1) ts) → ⊥
      wrong b =
          let h = owed (take (n + 1) ts) (Refused d vs) e in
          let o = one_of vs some in
          let whole' : take (n + 1) ts ≡ (h.mid ++ o.0 ∷ []) ++ o.1 = h.whole ∙ ap (λ (us : Tokens). h.mid ++ us) o.2 ∙ sym (append_assoc h.mid (o.0 ∷ []) o.1) in
          wrong_token h.mid o.1 o.0 d (λ ws k. h.same ws (k ∙ sym (ap first o.2))) (begins_front IsSomePred BeginsExtraToken (h.mid ++ o.0 ∷ []) o.1 (subst (λ (us : Tokens). Begins IsSomePred us) whole' b))
