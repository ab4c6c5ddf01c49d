-- What is printed of a literal has no more tokens than its text: a set literal has each scalar once.
use Rattle.std.proofs.Common.{◌≡◌, ℕ, zero, suc, ◌+◌, ◌-◌, ◌≤◌, true, false, List, [], ◌∷◌, ◌++◌, length, refl, sym, ap, subst, length-append, arith}
use Rattle.std.specs.Prelude.{flat_map, pos, negsuc}
use Rattle.std.specs.declared.cmp.Ordering.{Ordering}
use Rattle.std.specs.declared.cmp.Ordering.TheVariants.{Less as Below, Equal, Greater}
use Rattle.abc_value.specs.declared.scalar.Scalar.{Scalar}
use Rattle.abc_value.specs.declared.scalar.Scalar.TheVariants as s
use Rattle.abc_value.specs.declared.value.Value.{Value}
use Rattle.abc_value.specs.Scalars.{scalar_cmp}
use Rattle.abc_value.specs.Sets.{add_by, with_member, set_of}
use Rattle.abc_text.specs.declared.words.Mark.TheVariants as m
use Rattle.abc_text.specs.declared.words.Keyword.TheVariants as k
use Rattle.abc_grammar.specs.declared.lexemes.Lexeme.{Lexeme}
use Rattle.abc_grammar.specs.declared.lexemes.Lexeme.TheVariants as l
use Rattle.abc_grammar.specs.Listed.{AreListed, MayBeListed}
use Rattle.abc_grammar.specs.Listed as gl
use Rattle.abc_grammar.specs.Literals.{IsScalar, IsLiteral}
use Rattle.abc_grammar.specs.Literals as gs
use Rattle.abc_printed.specs.Parts.{Part, lexemes, behind_comma, listed}
use Rattle.abc_printed.specs.Forms.{scalar_parts, literal_parts}
use Rattle.abc_printed_laws.proofs.Parts.{lexemes-append}
use Rattle.abc_printed_limits.proofs.Depths.{Fits, fits_start, fits_append, Plain, Closed, closed_none, closed_cons, closed_append, curly}
use Rattle.abc_printed_limits.proofs.Prints.{Prints, prints_none, prints_cons, prints_then}

-- ---- tokens without brackets
pub record Flat (ts : List Lexeme) : Type 0 where
  pub closed : Closed ts
  pub fits : (room n : ℕ) → n ≤ room → Fits room n ts

-- no tokens
pub flat_none : Flat []
flat_none = record { closed = closed_none; fits = λ room n le. le }

-- behind a token that is no bracket
pub flat_cons : (t : Lexeme) (ts : List Lexeme) → Plain t → Flat ts → Flat (t ∷ ts)
flat_cons t ts p h = record {
  closed = closed_cons t ts p h.closed;
  fits = λ room n le. (le, subst (λ (i : ℕ). Fits room i ts) (sym (p.0 n)) (h.fits room n le));
}

-- one list behind another
pub flat_append : (ts us : List Lexeme) → Flat ts → Flat us → Flat (ts ++ us)
flat_append ts us h k = record {
  closed = closed_append ts us h.closed k.closed;
  fits = λ room n le. let c = h.closed in
      fits_append room n ts us (h.fits room n le) (subst (λ (i : ℕ). Fits room i us) (sym (c.balanced n)) (k.fits room n le));
}

-- a print without brackets, no longer than its text, which has none
prints_flat : {ts : List Lexeme} {ps : List Part} → Flat ts → Flat (lexemes ps) → length (lexemes ps) ≤ length ts → Prints ts ps
prints_flat {ts} h k le = record {
  less = record { text = h.closed; print = k.closed; fits = λ room n f. let s = fits_start room n ts f in k.fits (room + 0) n (omega (arith, s)) };
  shorter = le;
}

-- ---- scalars
-- a scalar's print
pub scalar_flat : (x : Scalar) → Flat (lexemes (scalar_parts x))
scalar_flat (s.Number (pos n)) = flat_cons (l.Number n) [] (λ i. refl, refl) flat_none
scalar_flat (s.Number (negsuc n)) =
    flat_cons (l.Mark m.Minus) (l.Number (suc n) ∷ []) (λ i. refl, refl) (flat_cons (l.Number (suc n)) [] (λ i. refl, refl) flat_none)
scalar_flat (s.Text bytes) = flat_cons (l.Text bytes) [] (λ i. refl, refl) flat_none
scalar_flat (s.Truth true) = flat_cons (l.Keyword k.True) [] (λ i. refl, refl) flat_none
scalar_flat (s.Truth false) = flat_cons (l.Keyword k.False) [] (λ i. refl, refl) flat_none

-- a scalar's text
written_flat : (ts : List Lexeme) (x : Scalar) → IsScalar ts x → Flat ts
written_flat _ _ (gs.number {n} h) = flat_cons (l.Number n) [] (λ i. refl, refl) flat_none
written_flat _ _ (gs.negative {n} h) =
    flat_cons (l.Mark m.Minus) (l.Number n ∷ []) (λ i. refl, refl) (flat_cons (l.Number n) [] (λ i. refl, refl) flat_none)
written_flat _ _ (gs.text {bytes}) = flat_cons (l.Text bytes) [] (λ i. refl, refl) flat_none
written_flat _ _ gs.yes = flat_cons (l.Keyword k.True) [] (λ i. refl, refl) flat_none
written_flat _ _ gs.no = flat_cons (l.Keyword k.False) [] (λ i. refl, refl) flat_none

-- how many tokens a scalar's print has
abbrev weight : Scalar → ℕ
weight x = length (lexemes (scalar_parts x))

-- `-0` is printed as `0`, and each other scalar as it is written
scalar_shorter : (ts : List Lexeme) (x : Scalar) → IsScalar ts x → weight x ≤ length ts
scalar_shorter _ _ (gs.number h) = omega arith
scalar_shorter _ _ (gs.negative {n = zero} h) = omega arith
scalar_shorter _ _ (gs.negative {n = suc n} h) = omega arith
scalar_shorter _ _ gs.text = omega arith
scalar_shorter _ _ gs.yes = omega arith
scalar_shorter _ _ gs.no = omega arith

-- so a scalar's print is no longer than its text
scalar_prints : (ts : List Lexeme) (x : Scalar) → IsScalar ts x → Prints ts (scalar_parts x)
scalar_prints ts x h = prints_flat (written_flat ts x h) (scalar_flat x) (scalar_shorter ts x h)

-- ---- set literals
-- how many tokens scalars have, each with a comma
abbrev weights : List Scalar → ℕ
weights [] = 0
weights (x ∷ xs) = weight x + 1 + weights xs

-- a scalar more
weights-append : (xs : List Scalar) (x : Scalar) → weights (xs ++ x ∷ []) ≡ weights xs + (weight x + 1)
weights-append [] x = omega arith
weights-append (y ∷ xs) x = let more = weights-append xs x in omega (arith, more)

-- a member more is written once at most
weights_with : (x : Scalar) (ys : List Scalar) → weights (with_member x ys) ≤ weight x + 1 + weights ys
weights_with x [] = omega arith
weights_with x (y ∷ ys) = by (scalar_cmp x y) (weights_with x ys)
  where
    by : (o : Ordering) → weights (with_member x ys) ≤ weight x + 1 + weights ys →
        weights (add_by o x y ys (with_member x ys)) ≤ weight x + 1 + weights (y ∷ ys)
    by Below more = omega arith
    by Equal more = omega arith
    by Greater more = omega (arith, more)

-- a set has no more tokens than the scalars that it is of
weights_set : (xs : List Scalar) → weights (set_of xs) ≤ weights xs
weights_set [] = omega arith
weights_set (x ∷ xs) = let more = weights_set xs in omega (arith, more, weights_with x (set_of xs))

-- the members behind the first
abbrev pub more_members : List Scalar → List Part
more_members xs = flat_map (behind_comma scalar_parts) xs

-- a comma, the first of them, and the others
pub more_members-cons : (x : Scalar) (xs : List Scalar) →
    lexemes (more_members (x ∷ xs)) ≡ l.Mark m.Comma ∷ lexemes (scalar_parts x) ++ lexemes (more_members xs)
more_members-cons x xs = lexemes-append (behind_comma scalar_parts x) (more_members xs)

-- their tokens
members_long : (xs : List Scalar) → length (lexemes (more_members xs)) ≡ weights xs
members_long [] = refl
members_long (x ∷ xs) =
    let more = members_long xs in
    let e = ap (length {A = Lexeme}) (more_members-cons x xs) in
    let f = length-append (lexemes (scalar_parts x)) (lexemes (more_members xs)) in
    omega (arith, more, e, f)

-- the tokens of all members: the first has no comma
set_long : (xs : List Scalar) → length (lexemes (listed scalar_parts xs)) ≤ weights xs - 1
set_long [] = omega arith
set_long (x ∷ xs) =
    let more = members_long xs in
    let e = ap (length {A = Lexeme}) (lexemes-append (scalar_parts x) (more_members xs)) in
    let f = length-append (lexemes (scalar_parts x)) (lexemes (more_members xs)) in
    omega (arith, more, e, f)

-- the tokens of a list in a text
written_long : {ts : List Lexeme} {xs : List Scalar} → AreListed IsScalar ts xs → weights xs ≤ length ts + 1
written_long (gl.one {ts} {a} h) = let e = scalar_shorter ts a h in omega (arith, e)
written_long (gl.more {ts} {us} {items} {a} h i) =
    let first = written_long h in
    let e = scalar_shorter us a i in
    omega (arith, first, e, weights-append items a, length-append ts (l.Mark m.Comma ∷ us))

-- the members behind the first have no brackets
members_flat : (xs : List Scalar) → Flat (lexemes (more_members xs))
members_flat [] = flat_none
members_flat (x ∷ xs) =
    subst Flat (sym (more_members-cons x xs))
    (flat_cons (l.Mark m.Comma) (lexemes (scalar_parts x) ++ lexemes (more_members xs)) (λ i. refl, refl)
    (flat_append (lexemes (scalar_parts x)) (lexemes (more_members xs)) (scalar_flat x) (members_flat xs)))

-- nor have all members
pub set_flat : (xs : List Scalar) → Flat (lexemes (listed scalar_parts xs))
set_flat [] = flat_none
set_flat (x ∷ xs) =
    subst Flat (sym (lexemes-append (scalar_parts x) (more_members xs)))
    (flat_append (lexemes (scalar_parts x)) (lexemes (more_members xs)) (scalar_flat x) (members_flat xs))

-- nor has a list in a text
listed_flat : {ts : List Lexeme} {xs : List Scalar} → AreListed IsScalar ts xs → Flat ts
listed_flat (gl.one {ts} {a} h) = written_flat ts a h
listed_flat (gl.more {ts} {us} {a = a} h i) =
    flat_append ts (l.Mark m.Comma ∷ us) (listed_flat h) (flat_cons (l.Mark m.Comma) us (λ n. refl, refl) (written_flat us a i))

-- what is printed of a set is no longer than its text
set_prints : {ts : List Lexeme} {xs : List Scalar} → MayBeListed IsScalar ts xs → Prints ts (listed scalar_parts (set_of xs))
set_prints gl.none = prints_none
set_prints (gl.some {ts} {items} h) =
    let first = written_long h in
    prints_flat (listed_flat h) (set_flat (set_of items)) (omega (arith, first, weights_set items, set_long (set_of items)))

-- A literal's print has no bracket and no token more than its text.
pub literal_prints : {ts : List Lexeme} {v : Value} → IsLiteral ts v → Prints ts (literal_parts v)
literal_prints (gs.scalar {ts} {x} h) = scalar_prints ts x h
literal_prints gs.nothing = prints_cons _ (λ n. refl, refl) prints_none
literal_prints (gs.set h) = prints_then (l.Mark m.OpenCurly) (l.Mark m.CloseCurly) curly (set_prints h) prints_none
