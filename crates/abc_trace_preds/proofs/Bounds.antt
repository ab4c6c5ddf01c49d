-- A limit that lexemes pass whose names are numbered anew is passed by them as they were.
use Rattle.std.proofs.Common.{◌≡◌, ℕ, ◌+◌, ◌≤◌, ◌<◌, ◌⊎◌, inl, inr, Bool, true, false, List, [], ◌∷◌, ◌++◌, map, length, take, Option, Some, None, refl, sym, ap, ◌∙◌, subst, append_assoc, arith}
use Rattle.std.specs.Prelude.{fold, slice_get, IsSomeAnd, IsTrue, if◌then◌else◌}
use Rattle.std.specs.Option.{option_map}
use Rattle.std.proofs.lemmas.List.{take-map, length-map}
use Rattle.std.proofs.lemmas.Option.{slice_get-map}
use Rattle.abc_value.specs.declared.scalar.Scalar.{Scalar}
use Rattle.abc_cause.specs.declared.Cause.{Cause}
use Rattle.abc_cause.specs.declared.Cause.TheVariants as cause
use Rattle.abc_pred.specs.declared.names.Name.{Name}
use Rattle.abc_text.specs.declared.words.Mark.TheVariants as m
use Rattle.abc_grammar.specs.declared.lexemes.Lexeme.{Lexeme}
use Rattle.abc_grammar.specs.declared.lexemes.Lexeme.TheVariants as l
use Rattle.abc_grammar.specs.Listed.{AreListed}
use Rattle.abc_grammar.specs.Listed as listed
use Rattle.abc_grammar.specs.Literals.{IsScalar}
use Rattle.abc_grammar.specs.Literals as lit
use Rattle.abc_grammar.specs.Sizes.{Spot, Free, Behind, Signed, Within, spot_behind, counts, size_from}
use Rattle.abc_grammar.specs.Limits.{At, opens, open_with, open_behind, IsTooDeep, BeginsExtraToken, BeginsExtraScalar, BeginsExtraExpr, BeginsExtraVariable}
use Rattle.abc_grammar.specs.Refusals.{IsSomePred, PassesLimit, IsWithin}
use Rattle.abc_limits.proofs.NoTuples.{no_extra_expr, no_extra_variable}
use Rattle.abc_trace_preds.proofs.Renamed.{new_lexeme}

-- ---- lexemes that name nothing
abbrev IsNameless : Lexeme → Type 0
IsNameless (l.Name n) = ⊥
IsNameless (l.Variable n) = ⊥
IsNameless (l.Keyword k) = Unit {0}
IsNameless (l.Mark m) = Unit {0}
IsNameless (l.Number n) = Unit {0}
IsNameless (l.Text bytes) = Unit {0}

abbrev AreNameless : List Lexeme → Type 0
AreNameless [] = Unit {0}
AreNameless (t ∷ ts) = IsNameless t × AreNameless ts

-- Two such lists one behind the other are such.
nameless_join : (ts us : List Lexeme) → AreNameless ts → AreNameless us → AreNameless (ts ++ us)
nameless_join [] us h g = g
nameless_join (t ∷ ts) us h g = (h.0, nameless_join ts us h.1 g)

-- A scalar names nothing,
scalar_nameless : {ts : List Lexeme} {x : Scalar} → IsScalar ts x → AreNameless ts
scalar_nameless (lit.number h) = (tt, tt)
scalar_nameless (lit.negative h) = (tt, (tt, tt))
scalar_nameless lit.text = (tt, tt)
scalar_nameless lit.yes = (tt, tt)
scalar_nameless lit.no = (tt, tt)

-- and listed scalars name nothing.
listed_nameless : {ts : List Lexeme} {xs : List Scalar} → AreListed IsScalar ts xs → AreNameless ts
listed_nameless (listed.one h) = scalar_nameless h
listed_nameless (listed.more {ts} {us} h i) =
    nameless_join ts (l.Mark m.Comma ∷ us) (listed_nameless h) (tt, scalar_nameless i)

-- ---- lists that are made of others
-- What two lists one behind the other were made of stands so too.
record Halves {A B : Type 0} (f : A → B) (xs : List A) (ys zs : List B) : Type 0 where
  pub front : List A
  pub back : List A
  pub whole : xs ≡ front ++ back
  pub first : map f front ≡ ys
  pub second : map f back ≡ zs

-- Such a list is taken apart where the other is.
halves : {A B : Type 0} (f : A → B) (xs : List A) (ys zs : List B) → map f xs ≡ ys ++ zs → Halves f xs ys zs
halves f xs [] zs e = record { front = []; back = xs; whole = refl; first = refl; second = e }
halves f [] (y ∷ ys) zs e = absurd (let e' : [] ≡ y ∷ (ys ++ zs) = e in cc)
halves f (x ∷ xs) (y ∷ ys) zs e =
    let e' : f x ∷ map f xs ≡ y ∷ (ys ++ zs) = e in
    let more = halves f xs ys zs (cc) in
    let here : f x ≡ y = cc in
    let rest = more.first in
    let whole = more.whole in
    record {
      front = x ∷ more.front;
      back = more.back;
      whole = λ i. x ∷ whole i;
      first = λ i. here i ∷ rest i;
      second = more.second;
    }

module _ (r : Name → Name) where
  -- ---- one lexeme
  -- What names nothing was the same.
  nameless_same : (t u : Lexeme) → new_lexeme r t ≡ u → IsNameless u → t ≡ u
  nameless_same (l.Mark n) u e h = e
  nameless_same (l.Keyword k) u e h = e
  nameless_same (l.Number n) u e h = e
  nameless_same (l.Text bytes) u e h = e
  nameless_same (l.Name n) u e h = absurd (let P : Lexeme → Type 0 = IsNameless in subst P (sym e) h)
  nameless_same (l.Variable n) u e h = absurd (let P : Lexeme → Type 0 = IsNameless in subst P (sym e) h)

  -- and so were lists.
  nameless_back : (ts us : List Lexeme) → map (new_lexeme r) ts ≡ us → AreNameless us → ts ≡ us
  nameless_back [] us e h = e
  nameless_back (t ∷ ts) [] e h = absurd (let e' : new_lexeme r t ∷ map (new_lexeme r) ts ≡ [] = e in cc)
  nameless_back (t ∷ ts) (u ∷ us) e h =
      let e' : new_lexeme r t ∷ map (new_lexeme r) ts ≡ u ∷ us = e in
      let here = nameless_same t u (cc) h.0 in
      let more = nameless_back ts us (cc) h.1 in
      λ i. here i ∷ more i

  -- ---- what is told of each lexeme stays
  -- A test that no number changes holds where it held.
  at_back : (ts : List Lexeme) (k : ℕ) (is : Lexeme → Bool) → ((t : Lexeme) → is (new_lexeme r t) ≡ is t) →
      At (map (new_lexeme r) ts) k is → At ts k is
  at_back ts k is same h =
      by (slice_get ts k)
      (subst (λ (o : Option Lexeme). IsSomeAnd o (λ t. IsTrue (is t))) (slice_get-map (new_lexeme r) ts k) h)
    where
      by :
          (o : Option Lexeme) → IsSomeAnd (option_map (new_lexeme r) o) (λ t. IsTrue (is t)) →
          IsSomeAnd o (λ t. IsTrue (is t))
      by None g = g
      by (Some t) g = subst IsTrue (same t) g

  opens_stay : (t : Lexeme) → opens (new_lexeme r t) ≡ opens t
  opens_stay (l.Mark n) = refl
  opens_stay (l.Keyword k) = refl
  opens_stay (l.Name n) = refl
  opens_stay (l.Variable n) = refl
  opens_stay (l.Number n) = refl
  opens_stay (l.Text bytes) = refl

  open_stays : (n : ℕ) (t : Lexeme) → open_with n (new_lexeme r t) ≡ open_with n t
  open_stays n (l.Mark x) = refl
  open_stays n (l.Keyword k) = refl
  open_stays n (l.Name x) = refl
  open_stays n (l.Variable x) = refl
  open_stays n (l.Number x) = refl
  open_stays n (l.Text bytes) = refl

  spot_stays : (s : Spot) (t : Lexeme) → spot_behind s (new_lexeme r t) ≡ spot_behind s t
  spot_stays s (l.Mark x) = refl
  spot_stays s (l.Keyword k) = refl
  spot_stays Free (l.Name x) = refl
  spot_stays Behind (l.Name x) = refl
  spot_stays Signed (l.Name x) = refl
  spot_stays Within (l.Name x) = refl
  spot_stays Free (l.Variable x) = refl
  spot_stays Behind (l.Variable x) = refl
  spot_stays Signed (l.Variable x) = refl
  spot_stays Within (l.Variable x) = refl
  spot_stays s (l.Number x) = refl
  spot_stays s (l.Text bytes) = refl

  counts_stay : (s : Spot) (t : Lexeme) → counts s (new_lexeme r t) ≡ counts s t
  counts_stay s (l.Mark x) = refl
  counts_stay s (l.Keyword k) = refl
  counts_stay Free (l.Name x) = refl
  counts_stay Behind (l.Name x) = refl
  counts_stay Signed (l.Name x) = refl
  counts_stay Within (l.Name x) = refl
  counts_stay Free (l.Variable x) = refl
  counts_stay Behind (l.Variable x) = refl
  counts_stay Signed (l.Variable x) = refl
  counts_stay Within (l.Variable x) = refl
  counts_stay s (l.Number x) = refl
  counts_stay s (l.Text bytes) = refl

  -- ---- what is told of lists stays
  fold_stays : {B : Type 0} (f : B → Lexeme → B) → ((b : B) (t : Lexeme) → f b (new_lexeme r t) ≡ f b t) →
      (b : B) (ts : List Lexeme) → fold f b (map (new_lexeme r) ts) ≡ fold f b ts
  fold_stays f same b [] = refl
  fold_stays f same b (t ∷ ts) =
      let here = same b t in
      (λ i. fold f (here i) (map (new_lexeme r) ts)) ∙ fold_stays f same (f b t) ts

  size_stays : (s : Spot) (ts : List Lexeme) → size_from s (map (new_lexeme r) ts) ≡ size_from s ts
  size_stays s [] = refl
  size_stays s (t ∷ ts) =
      let here = counts_stay s t in
      let next = spot_stays s t in
      let more = size_stays (spot_behind s t) ts in
      (λ i. (if here i then 1 else 0) + size_from (next i) (map (new_lexeme r) ts))
      ∙ ap (λ (n : ℕ). (if counts s t then 1 else 0) + n) more

  -- ---- limits
  too_deep : (ts : List Lexeme) (k : ℕ) → IsTooDeep (map (new_lexeme r) ts) k → IsTooDeep ts k
  too_deep ts k h =
      let full = h.full in
      let same = ap (open_behind 0) (take-map (new_lexeme r) k ts) ∙ fold_stays open_with open_stays 0 (take k ts) in
      record { opener = at_back ts k opens opens_stay h.opener; full = omega (arith, full, same) }

  extra_token : (ts : List Lexeme) (k : ℕ) → BeginsExtraToken (map (new_lexeme r) ts) k → BeginsExtraToken ts k
  extra_token ts k h =
      let full = h.full in
      let front = take-map (new_lexeme r) k ts in
      let spot = ap (fold spot_behind Free) front ∙ fold_stays spot_behind spot_stays Free (take k ts) in
      let same = ap (size_from Free) front ∙ size_stays Free (take k ts) in
      record {
        counted = at_back ts k (counts (fold spot_behind Free (take k ts)))
            (counts_stay (fold spot_behind Free (take k ts)))
            (subst (λ (s : Spot). At (map (new_lexeme r) ts) k (counts s)) spot h.counted);
        full = omega (arith, full, same);
      }

  extra_scalar : (ts : List Lexeme) (k : ℕ) → BeginsExtraScalar (map (new_lexeme r) ts) k → BeginsExtraScalar ts k
  extra_scalar ts k h =
      let outer = halves (new_lexeme r) (take k ts) h.before (l.Mark m.OpenCurly ∷ h.parts ++ l.Mark m.Comma ∷ [])
      (sym (take-map (new_lexeme r) k ts) ∙ h.stands
      ∙ append_assoc h.before (l.Mark m.OpenCurly ∷ h.parts) (l.Mark m.Comma ∷ [])) in
      let opener = halves (new_lexeme r) outer.back (l.Mark m.OpenCurly ∷ []) (h.parts ++ l.Mark m.Comma ∷ [])
      outer.second in
      let inner = halves (new_lexeme r) opener.back h.parts (l.Mark m.Comma ∷ []) opener.second in
      let curly = nameless_back opener.front (l.Mark m.OpenCurly ∷ []) opener.first (tt, tt) in
      let parts = nameless_back inner.front h.parts inner.first (listed_nameless h.listed) in
      let comma = nameless_back inner.back (l.Mark m.Comma ∷ []) inner.second (tt, tt) in
      let exists = h.exists in
      record {
        exists = omega (arith, exists, length-map ts (new_lexeme r));
        before = outer.front;
        parts = h.parts;
        scalars = h.scalars;
        listed = h.listed;
        full = h.full;
        stands = outer.whole
            ∙ ap (λ (us : List Lexeme). outer.front ++ us)
            (opener.whole ∙ (λ i. curly i ++ opener.back)
            ∙ ap (λ (us : List Lexeme). l.Mark m.OpenCurly ∷ us) (inner.whole ∙ (λ i. parts i ++ comma i)))
            ∙ sym (append_assoc outer.front (l.Mark m.OpenCurly ∷ h.parts) (l.Mark m.Comma ∷ []));
      }

  -- A limit of predicates is passed where it was passed,
  passes_back : (ts : List Lexeme) (k : ℕ) (c : Cause) →
      PassesLimit IsSomePred BeginsExtraToken c (map (new_lexeme r) ts) k → PassesLimit IsSomePred BeginsExtraToken c ts k
  passes_back ts k cause.TooDeep h = too_deep ts k h
  passes_back ts k cause.TooLarge h = extra_token ts k h
  passes_back ts k cause.LongTuple (inl h) = absurd (no_extra_expr (map (new_lexeme r) ts) k h)
  passes_back ts k cause.LongTuple (inr h) = absurd (no_extra_variable (map (new_lexeme r) ts) k h)
  passes_back ts k cause.LongSet h = extra_scalar ts k h
  passes_back ts k cause.BadByte h = h
  passes_back ts k cause.BadText h = h
  passes_back ts k cause.LongText h = h
  passes_back ts k cause.LongName h = h
  passes_back ts k cause.WideNumber h = h
  passes_back ts k cause.Syntax h = h
  passes_back ts k (cause.Check c) h = h

  -- so lexemes that are within the limits stay so as their names are numbered anew.
  pub within_anew : (ts : List Lexeme) → IsWithin IsSomePred BeginsExtraToken ts (length ts) →
      IsWithin IsSomePred BeginsExtraToken (map (new_lexeme r) ts) (length (map (new_lexeme r) ts))
  within_anew ts h k lt c p = h k (omega (arith, lt, length-map ts (new_lexeme r))) c (passes_back ts k c p)
