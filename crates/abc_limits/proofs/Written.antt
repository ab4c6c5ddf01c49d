-- The count of scalars that are written in a set literal is that of the grammar.
use Rattle.std.proofs.Common.{◌≡◌, ℕ, ◌+◌, ◌<◌, ◌⊎◌, inl, inr, Bool, true, false, List, [], ◌∷◌, ◌++◌, length, refl, sym, ap, ◌∙◌, subst, append_assoc, arith}
use Rattle.std.specs.Prelude.{fold, pos, neg_ℤ}
use Rattle.std.proofs.lemmas.List.Sums.{fold-append}
use Rattle.std.proofs.lemmas.List.{length-append}
use Rattle.abc_value.specs.declared.scalar.Scalar.{Scalar}
use Rattle.abc_value.specs.declared.scalar.Scalar.TheVariants as s
use Rattle.abc_value.specs.Values.{fits_64}
use Rattle.abc_grammar.specs.declared.lexemes.Lexeme.{Lexeme}
use Rattle.abc_grammar.specs.declared.lexemes.Lexeme.TheVariants as l
use Rattle.abc_text.specs.declared.words.Mark.TheVariants as m
use Rattle.abc_text.specs.declared.words.Keyword.TheVariants as k
use Rattle.abc_grammar.specs.Listed.{AreListed}
use Rattle.abc_grammar.specs.Listed as gl
use Rattle.abc_grammar.specs.Literals.{IsScalar}
use Rattle.abc_grammar.specs.Literals as gs
use Rattle.abc_limits.specs.declared.scalars.Written.{Written}
use Rattle.abc_limits.specs.declared.scalars.Written.TheVariants.{Outside, Expects, Signed, Counted}
use Rattle.abc_limits.specs.Written.{counted, scalar_begun, scalar_signed, scalar_ended, written_on, written_behind}

-- ---- what the count stands for
-- so many scalars, parted by commas, behind a `{`
pub record Listing (n : ℕ) (ts : List Lexeme) : Type 0 where
  pub before : List Lexeme
  pub parts : List Lexeme
  pub scalars : List Scalar
  pub stands : ts ≡ before ++ (l.Mark m.OpenCurly ∷ parts)
  pub listed : AreListed IsScalar parts scalars
  pub count : length scalars ≡ n

-- behind a `{`, or behind a comma
abbrev pub Opened : ℕ → List Lexeme → Type 0
Opened n ts = ((before : List Lexeme) × (ts ≡ before ++ l.Mark m.OpenCurly ∷ []) × (n ≡ 0))
    ⊎ ((us : List Lexeme) × (ts ≡ us ++ l.Mark m.Comma ∷ []) × Listing n us)

abbrev pub Means : Written → List Lexeme → Type 0
Means Outside ts = Unit {0}
Means (Expects n) ts = Opened n ts
Means (Signed n) ts = (us : List Lexeme) × (ts ≡ us ++ l.Mark m.Minus ∷ []) × Opened n us
Means (Counted n) ts = Listing n ts

-- a scalar more
one_more : (n : ℕ) (ts us : List Lexeme) (x : Scalar) → Opened n ts → IsScalar us x → Listing (n + 1) (ts ++ us)
one_more n ts us x (inl h) q = record {
  before = h.0;
  parts = us;
  scalars = x ∷ [];
  stands = ap (λ (vs : List Lexeme). vs ++ us) h.1 ∙ append_assoc h.0 (l.Mark m.OpenCurly ∷ []) us;
  listed = gl.one q;
  count = omega (arith, h.2);
}
one_more n ts us x (inr h) q =
    let g = h.2 in
    record {
      before = g.before;
      parts = g.parts ++ l.Mark m.Comma ∷ us;
      scalars = g.scalars ++ x ∷ [];
      stands = ap (λ (vs : List Lexeme). vs ++ us) (h.1 ∙ ap (λ (vs : List Lexeme). vs ++ l.Mark m.Comma ∷ []) g.stands)
          ∙ append_assoc (g.before ++ (l.Mark m.OpenCurly ∷ g.parts)) (l.Mark m.Comma ∷ []) us
          ∙ append_assoc g.before (l.Mark m.OpenCurly ∷ g.parts) (l.Mark m.Comma ∷ us);
      listed = gl.more g.listed q;
      count = length-append g.scalars (x ∷ []) ∙ ap (λ (i : ℕ). i + 1) g.count;
    }

counted_means : (b : Bool) (n : ℕ) (ts us : List Lexeme) (x : Scalar) → Opened n ts → (b ≡ true → IsScalar us x) →
    Means (counted n b) (ts ++ us)
counted_means true n ts us x h q = one_more n ts us x h (q refl)
counted_means false n ts us x h q = tt

begun_means : (n : ℕ) (ts : List Lexeme) (t : Lexeme) → Opened n ts → Means (scalar_begun n t) (ts ++ t ∷ [])
begun_means n ts (l.Number i) h =
    counted_means (fits_64 (pos i)) n ts (l.Number i ∷ []) (s.Number (pos i)) h (λ e. gs.number e)
begun_means n ts (l.Mark m.Minus) h = (ts, refl, h)
begun_means n ts (l.Text bytes) h = one_more n ts (l.Text bytes ∷ []) (s.Text bytes) h gs.text
begun_means n ts (l.Keyword k.True) h = one_more n ts (l.Keyword k.True ∷ []) (s.Truth true) h gs.yes
begun_means n ts (l.Keyword k.False) h = one_more n ts (l.Keyword k.False ∷ []) (s.Truth false) h gs.no
begun_means n ts t h = tt

signed_means : (n : ℕ) (ts us : List Lexeme) (t : Lexeme) → ts ≡ us ++ l.Mark m.Minus ∷ [] → Opened n us →
    Means (scalar_signed n t) (ts ++ t ∷ [])
signed_means n ts us (l.Number i) e h =
    subst (λ (vs : List Lexeme). Means (counted n (fits_64 (neg_ℤ (pos i)))) vs)
    (sym (ap (λ (vs : List Lexeme). vs ++ l.Number i ∷ []) e
    ∙ append_assoc us (l.Mark m.Minus ∷ []) (l.Number i ∷ [])))
    (counted_means (fits_64 (neg_ℤ (pos i))) n us (l.Mark m.Minus ∷ l.Number i ∷ []) (s.Number (neg_ℤ (pos i))) h
    (λ f. gs.negative f))
signed_means n ts us t e h = tt

ended_means : (n : ℕ) (ts : List Lexeme) (t : Lexeme) → Listing n ts → Means (scalar_ended n t) (ts ++ t ∷ [])
ended_means n ts (l.Mark m.Comma) h = inr (ts, refl, h)
ended_means n ts t h = tt

on_means : (w : Written) (ts : List Lexeme) (t : Lexeme) → Means w ts → Means (written_on w t) (ts ++ t ∷ [])
on_means Outside ts t h = tt
on_means (Expects n) ts t h = begun_means n ts t h
on_means (Signed n) ts t h = signed_means n ts h.0 t h.1 h.2
on_means (Counted n) ts t h = ended_means n ts t h

behind_means : (w : Written) (ts : List Lexeme) (t : Lexeme) → Means w ts → Means (written_behind w t) (ts ++ t ∷ [])
behind_means w ts (l.Mark m.OpenCurly) h = inl (ts, refl, refl)
behind_means w ts t h = on_means w ts t h

all_mean : (w : Written) (ts us : List Lexeme) → Means w ts → Means (fold written_behind w us) (ts ++ us)
all_mean w ts [] h = subst (λ (vs : List Lexeme). Means w vs) (sym (append_nil ts)) h
  where
    append_nil : (vs : List Lexeme) → vs ++ [] ≡ vs
    append_nil [] = refl
    append_nil (x ∷ vs) = ap (λ (xs : List Lexeme). x ∷ xs) (append_nil vs)
all_mean w ts (t ∷ us) h = subst (λ (vs : List Lexeme). Means (fold written_behind (written_behind w t) us) vs)
    (append_assoc ts (t ∷ []) us) (all_mean (written_behind w t) (ts ++ t ∷ []) us (behind_means w ts t h))

pub written_means : (ts : List Lexeme) → Means (fold written_behind Outside ts) ts
written_means ts = all_mean Outside [] ts tt

-- behind a comma with more scalars than none
pub expects_listing : (n : ℕ) (ts : List Lexeme) → 0 < n → Opened n ts →
    (us : List Lexeme) × (ts ≡ us ++ l.Mark m.Comma ∷ []) × Listing n us
expects_listing n ts h (inl e) = absurd (omega (arith, e.2))
expects_listing n ts h (inr g) = g

-- ---- and back
scalar_counts : {ts : List Lexeme} {x : Scalar} → IsScalar ts x → (n : ℕ) →
    fold written_behind (Expects n) ts ≡ Counted (n + 1)
scalar_counts (gs.number {n = i} e) n = ap (counted n) e
scalar_counts (gs.negative {n = i} e) n = ap (counted n) e
scalar_counts gs.text n = refl
scalar_counts gs.yes n = refl
scalar_counts gs.no n = refl

list_counts : {ts : List Lexeme} {xs : List Scalar} → AreListed IsScalar ts xs →
    fold written_behind (Expects 0) ts ≡ Counted (length xs)
list_counts (gl.one h) = scalar_counts h 0
list_counts (gl.more {ts} {us} {items} {a} h q) =
    fold-append written_behind (Expects 0) ts (l.Mark m.Comma ∷ us)
    ∙ ap (λ (w : Written). fold written_behind w (l.Mark m.Comma ∷ us)) (list_counts h)
    ∙ scalar_counts q (length items) ∙ ap Counted (sym (length-append items (a ∷ [])))

pub listing_counts : (before parts : List Lexeme) (xs : List Scalar) → AreListed IsScalar parts xs
    → fold written_behind Outside ((before ++ (l.Mark m.OpenCurly ∷ parts)) ++ l.Mark m.Comma ∷ []) ≡ Expects
    (length xs)
listing_counts before parts xs h =
    fold-append written_behind Outside (before ++ (l.Mark m.OpenCurly ∷ parts)) (l.Mark m.Comma ∷ [])
    ∙ ap (λ (w : Written). fold written_behind w (l.Mark m.Comma ∷ []))
    (fold-append written_behind Outside before (l.Mark m.OpenCurly ∷ parts) ∙ list_counts h)
