-- What is printed of a closed term against what is printed of the term: each own attribute and each variable is a literal, which
-- counts as one token, and opens one bracket at most.
use Rattle.std.proofs.Common.{◌≡◌, ℕ, ◌+◌, ◌<◌, ◌≤◌, Bool, true, false, List, [], ◌∷◌, ◌++◌, length, refl, sym, ap, ◌∙◌, subst, length-append, arith}
use Rattle.std.specs.Prelude.{fold, if◌then◌else◌, pos, negsuc}
use Rattle.std.proofs.lemmas.List.Sums.{fold-append}
use Rattle.abc_value.specs.declared.scalar.Scalar.{Scalar}
use Rattle.abc_value.specs.declared.scalar.Scalar.TheVariants as s
use Rattle.abc_value.specs.declared.value.Value.{Value}
use Rattle.abc_value.specs.declared.value.Value.TheVariants as v
use Rattle.abc_text.specs.declared.words.Mark.TheVariants as m
use Rattle.abc_text.specs.declared.words.Keyword.TheVariants as k
use Rattle.abc_grammar.specs.declared.lexemes.Lexeme.{Lexeme}
use Rattle.abc_grammar.specs.declared.lexemes.Lexeme.TheVariants as l
use Rattle.abc_grammar.specs.Sizes.{Spot, Free, Behind, Within, spot_behind, counts, size_from}
use Rattle.abc_printed.specs.Parts.{Part, Token, Space, lexemes, listed}
use Rattle.abc_printed.specs.Forms.{spaced, scalar_parts, literal_parts}
use Rattle.abc_printed_laws.proofs.Parts.{lexemes-append}
use Rattle.abc_printed_limits.proofs.Depths.{Fits, fits_start, fits_append, Plain, Pair, Closed, closed_none, closed_cons, closed_then, curly, Less, less_none, less_cons, less_append, less_then}
use Rattle.abc_printed_limits.proofs.Literals.{scalar_flat, set_flat, more_members, more_members-cons}

-- ---- sizes
-- tokens behind tokens
size-append : (from : Spot) (ts us : List Lexeme) → size_from from (ts ++ us) ≡ size_from from ts + size_from (fold spot_behind from ts) us
size-append from [] us = omega arith
size-append from (t ∷ ts) us = let more = size-append (spot_behind from t) ts us in omega (arith, more)

-- a token counts as one at most
one_at_most : (b : Bool) → (if b then 1 else 0) ≤ 1
one_at_most true = omega arith
one_at_most false = omega arith

-- Parts of a closed term, and those of the term that stand in the same place: from one spot to another.
pub record Closes (from to : Spot) (ps qs : List Part) : Type 0 where
  pub less : Less 1 (lexemes ps) (lexemes qs)
  pub size : size_from from (lexemes qs) ≤ length (lexemes ps)
  pub ends : fold spot_behind from (lexemes qs) ≡ to

-- no tokens
pub closes_none : (from : Spot) → Closes from from [] []
closes_none from = record { less = less_none 1; size = omega arith; ends = refl }

-- behind a space
pub closes_space : {from to : Spot} {ps qs : List Part} → Closes from to ps qs → Closes from to (Space ∷ ps) (Space ∷ qs)
closes_space h = record { less = h.less; size = h.size; ends = h.ends }

-- the same token before both
pub closes_cons : (t : Lexeme) {from mid to : Spot} {ps qs : List Part} → Plain t → spot_behind from t ≡ mid → Closes mid to ps qs →
    Closes from to (Token t ∷ ps) (Token t ∷ qs)
closes_cons t {from} {mid} {to} {ps} {qs} p e h =
    let size = h.size in
    let same = ap (λ (at : Spot). size_from at (lexemes qs)) e in
    let one = one_at_most (counts from t) in
    record {
      less = less_cons 1 t (lexemes ps) (lexemes qs) p h.less;
      size = omega (arith, size, same, one);
      ends = ap (λ (at : Spot). fold spot_behind at (lexemes qs)) e ∙ h.ends;
    }

-- some behind others
pub closes_append : {from mid to : Spot} {ps qs us vs : List Part} → Closes from mid ps qs → Closes mid to us vs →
    Closes from to (ps ++ us) (qs ++ vs)
closes_append {from} {mid} {to} {ps} {qs} {us} {vs} h i =
    let e = lexemes-append ps us in
    let f = lexemes-append qs vs in
    let long = ap (length {A = Lexeme}) e ∙ length-append (lexemes ps) (lexemes us) in
    let size = ap (size_from from) f ∙ size-append from (lexemes qs) (lexemes vs) in
    let same = ap (λ (at : Spot). size_from at (lexemes vs)) h.ends in
    let a = h.size in
    let b = i.size in
    record {
      less = subst (λ (ts : List Lexeme). Less 1 ts (lexemes (qs ++ vs))) (sym e) (subst (Less 1 (lexemes ps ++ lexemes us)) (sym f)
          (less_append 1 (lexemes ps) (lexemes qs) (lexemes us) (lexemes vs) h.less i.less));
      size = omega (arith, long, size, same, a, b);
      ends = ap (fold spot_behind from) f ∙ fold-append spot_behind from (lexemes qs) (lexemes vs)
          ∙ ap (λ (at : Spot). fold spot_behind at (lexemes vs)) h.ends ∙ i.ends;
    }

-- in the same brackets
pub closes_inside : (opener closer : Lexeme) {from first last to : Spot} {ps qs : List Part} → Pair opener closer → spot_behind from opener ≡ first →
    spot_behind last closer ≡ to → Closes first last ps qs →
    Closes from to (Token opener ∷ ps ++ Token closer ∷ []) (Token opener ∷ qs ++ Token closer ∷ [])
closes_inside opener closer {from} {first} {last} {to} {ps} {qs} p e f h =
    let i = lexemes-append ps (Token closer ∷ []) in
    let j = lexemes-append qs (Token closer ∷ []) in
    let long = ap (length {A = Lexeme}) i ∙ length-append (lexemes ps) (closer ∷ []) in
    let size = ap (size_from first) j ∙ size-append first (lexemes qs) (closer ∷ []) in
    let same = ap (λ (at : Spot). size_from at (lexemes (qs ++ Token closer ∷ []))) e in
    let one = one_at_most (counts from opener) in
    let two = one_at_most (counts (fold spot_behind first (lexemes qs)) closer) in
    let a = h.size in
    record {
      less = subst (λ (ts : List Lexeme). Less 1 (opener ∷ ts) (opener ∷ lexemes (qs ++ Token closer ∷ []))) (sym i)
          (subst (λ (ts : List Lexeme). Less 1 (opener ∷ lexemes ps ++ closer ∷ []) (opener ∷ ts)) (sym j)
          (less_then 1 opener closer (lexemes ps) (lexemes qs) [] [] p h.less (less_none 1)));
      size = omega (arith, long, size, same, one, two, a);
      ends = ap (λ (at : Spot). fold spot_behind at (lexemes (qs ++ Token closer ∷ []))) e ∙ ap (fold spot_behind first) j
          ∙ fold-append spot_behind first (lexemes qs) (closer ∷ []) ∙ ap (λ (at : Spot). spot_behind at closer) h.ends ∙ f;
    }

-- two sides, and what stands between them
pub closes_sides : (t : Lexeme) {from mid next to : Spot} {ps qs us vs : List Part} → Plain t → spot_behind mid t ≡ next → Closes from mid ps qs →
    Closes next to us vs → Closes from to (ps ++ spaced (Token t) ++ us) (qs ++ spaced (Token t) ++ vs)
closes_sides t {next = next} p e h i = closes_append (closes_append h (closes_space (closes_cons t p e (closes_space (closes_none next))))) i

-- ---- literals
-- in a set literal no token counts
pub record Inner (ts : List Lexeme) : Type 0 where
  pub size : size_from Within ts ≡ 0
  pub ends : fold spot_behind Within ts ≡ Within

-- one list behind another
inner_append : (ts us : List Lexeme) → Inner ts → Inner us → Inner (ts ++ us)
inner_append ts us h i =
    let a = h.size in
    let b = i.size in
    record {
      size = size-append Within ts us ∙ ap (λ (at : Spot). size_from Within ts + size_from at us) h.ends ∙ (omega (arith, a, b));
      ends = fold-append spot_behind Within ts us ∙ ap (λ (at : Spot). fold spot_behind at us) h.ends ∙ i.ends;
    }

-- a scalar
scalar_inner : (x : Scalar) → Inner (lexemes (scalar_parts x))
scalar_inner (s.Number (pos n)) = record { size = refl; ends = refl }
scalar_inner (s.Number (negsuc n)) = record { size = refl; ends = refl }
scalar_inner (s.Text bytes) = record { size = refl; ends = refl }
scalar_inner (s.Truth true) = record { size = refl; ends = refl }
scalar_inner (s.Truth false) = record { size = refl; ends = refl }

-- the members behind the first
members_inner : (xs : List Scalar) → Inner (lexemes (more_members xs))
members_inner [] = record { size = refl; ends = refl }
members_inner (x ∷ xs) =
    subst Inner (sym (more_members-cons x xs))
    (inner_append (l.Mark m.Comma ∷ lexemes (scalar_parts x)) (lexemes (more_members xs))
    (inner_append (l.Mark m.Comma ∷ []) (lexemes (scalar_parts x)) (record { size = refl; ends = refl }) (scalar_inner x)) (members_inner xs))

-- all members
set_inner : (xs : List Scalar) → Inner (lexemes (listed scalar_parts xs))
set_inner [] = record { size = refl; ends = refl }
set_inner (x ∷ xs) =
    subst Inner (sym (lexemes-append (scalar_parts x) (more_members xs)))
    (inner_append (lexemes (scalar_parts x)) (lexemes (more_members xs)) (scalar_inner x) (members_inner xs))

-- What is printed of a literal counts as one, and opens one bracket at most.
pub record One (ts : List Lexeme) : Type 0 where
  pub closed : Closed ts
  pub fits : (room n : ℕ) → n + 1 ≤ room → Fits room n ts
  pub size : size_from Free ts ≤ 1
  pub ends : fold spot_behind Free ts ≡ Behind

-- a scalar
scalar_one : (x : Scalar) → One (lexemes (scalar_parts x))
scalar_one x =
    let flat = scalar_flat x in
    record { closed = flat.closed; fits = λ room n le. flat.fits room n (omega (arith, le)); size = size x; ends = ends x }
  where
    size : (y : Scalar) → size_from Free (lexemes (scalar_parts y)) ≤ 1
    size (s.Number (pos n)) = omega arith
    size (s.Number (negsuc n)) = omega arith
    size (s.Text bytes) = omega arith
    size (s.Truth true) = omega arith
    size (s.Truth false) = omega arith

    ends : (y : Scalar) → fold spot_behind Free (lexemes (scalar_parts y)) ≡ Behind
    ends (s.Number (pos n)) = refl
    ends (s.Number (negsuc n)) = refl
    ends (s.Text bytes) = refl
    ends (s.Truth true) = refl
    ends (s.Truth false) = refl

-- a set
set_one : (xs : List Scalar) → One (lexemes (literal_parts (v.Set xs)))
set_one xs =
    let inside = lexemes (listed scalar_parts xs) in
    let flat = set_flat xs in
    let balanced = (flat.closed).balanced in
    let inner = set_inner xs in
    let a = inner.size in
    let whole : One (l.Mark m.OpenCurly ∷ inside ++ l.Mark m.CloseCurly ∷ []) = record {
      closed = closed_then (l.Mark m.OpenCurly) (l.Mark m.CloseCurly) inside [] curly flat.closed closed_none;
      fits = λ room n le. (
        omega (arith, le),
        fits_append room (n + 1) inside (l.Mark m.CloseCurly ∷ []) (flat.fits room (n + 1) le)
            (subst (λ (i : ℕ). Fits room i (l.Mark m.CloseCurly ∷ [])) (sym (balanced (n + 1))) (le, omega (arith, le))),
      );
      size = let e = size-append Within inside (l.Mark m.CloseCurly ∷ []) in
          let f = ap (λ (at : Spot). size_from at (l.Mark m.CloseCurly ∷ [])) inner.ends in
          omega (arith, e, f, a);
      ends = fold-append spot_behind Within inside (l.Mark m.CloseCurly ∷ []) ∙ ap (λ (at : Spot). spot_behind at (l.Mark m.CloseCurly)) inner.ends;
    } in
    subst (λ (ts : List Lexeme). One (l.Mark m.OpenCurly ∷ ts))
    (sym (lexemes-append (listed scalar_parts xs) (Token (l.Mark m.CloseCurly) ∷ []))) whole

-- each value
pub literal_one : (x : Value) → One (lexemes (literal_parts x))
literal_one (v.Scalar x) = scalar_one x
literal_one (v.Set xs) = set_one xs
literal_one v.Nothing =
    record {
      closed = closed_cons (l.Keyword k.None) [] (λ i. refl, refl) closed_none;
      fits = λ room n le. (omega (arith, le), omega (arith, le));
      size = omega arith;
      ends = refl;
    }

-- a literal in the place of other tokens
pub closes_literal : (ps : List Part) (x : Value) → Closed (lexemes ps) → 0 < length (lexemes ps) → Closes Free Behind ps (literal_parts x)
closes_literal ps x h some =
    let one = literal_one x in
    let size = one.size in
    record {
      less = record {
        text = h;
        print = one.closed;
        fits = λ room n f. let le = fits_start room n (lexemes ps) f in one.fits (room + 1) n (omega (arith, le));
      };
      size = omega (arith, size, some);
      ends = one.ends;
    }
