-- What is left of tokens with short set literals has short ones, and the set of such a literal is no set too large.
use Rattle.std.proofs.Common.{◌≡◌, ℕ, Bool, true, ◌+◌, ◌≤◌, List, [], ◌∷◌, ◌++◌, length, sym, ap, ◌∙◌, subst, append_assoc, arith, Ordering, Option, Some, None, if◌then◌else◌}
use Rattle.std.specs.Prelude.{nat_le}
use Rattle.std.proofs.lemmas.Bool.Decides.{nat_tests}
use Rattle.std.specs.declared.cmp.Ordering.TheVariants.{Less, Equal, Greater}
use Rattle.abc_value.specs.declared.limits.TheConstants.{MOST_MEMBERS}
use Rattle.abc_value.specs.Scalars.{scalar_cmp}
use Rattle.abc_value.specs.declared.scalar.Scalar.{Scalar}
use Rattle.abc_value.specs.Sets.{add_by, with_member, set_of}
use Rattle.abc_grammar.specs.declared.lexemes.Lexeme.{Lexeme}
use Rattle.abc_grammar.specs.declared.lexemes.Lexeme.TheVariants as l
use Rattle.abc_text.specs.declared.words.Mark.TheVariants as m
use Rattle.abc_grammar.specs.declared.limits.TheConstants.{MOST_WRITTEN}
use Rattle.abc_grammar.specs.Listed.{MayBeListed}
use Rattle.abc_grammar.specs.Listed as gl
use Rattle.abc_grammar.specs.Literals.{IsScalar}
use Rattle.abc_reading.specs.Reading.{Read}
use Rattle.abc_reading.proofs.Laws.{Owes}
use Rattle.abc_readers.specs.Operands.{Tokens, Reading, members_at}
use Rattle.abc_readers.proofs.OperandReads.{AreMembers, members_at_reads}
use Rattle.abc_phrases.specs.Fitting.{SetsFit, BeginsSet}

pub fits_behind : (t : Lexeme) (ts : Tokens) → SetsFit (t ∷ ts) → SetsFit ts
fits_behind t ts h before parts after scalars are e = h (t ∷ before) parts after scalars are (ap (λ (us : Tokens). t ∷ us) e)

with-size : (x : Scalar) (xs : List Scalar) → length (with_member x xs) ≤ length xs + 1
with-size x [] = omega arith
with-size x (y ∷ ys) = by (scalar_cmp x y) (with-size x ys)
  where
    by : (o : Ordering) → length (with_member x ys) ≤ length ys + 1 → length (add_by o x y ys (with_member x ys)) ≤ length (y ∷ ys) + 1
    by Less le = omega arith
    by Equal le = omega arith
    by Greater le = omega (arith, le)

pub set-size : (xs : List Scalar) → length (set_of xs) ≤ length xs
set-size [] = omega arith
set-size (x ∷ xs) = let le = set-size xs in let more = with-size x (set_of xs) in omega (arith, le, more)

few : (ts rest mid us : Tokens) (scalars : List Scalar) → SetsFit (l.Mark m.OpenCurly ∷ ts) → ts ≡ mid ++ rest → mid ≡ us ++ l.Mark m.CloseCurly ∷ []
    → MayBeListed IsScalar us scalars → length scalars ≤ MOST_WRITTEN
few ts rest mid us scalars fits whole closed gl.none = omega arith
few ts rest mid us scalars fits whole closed (gl.some h) =
    fits [] us rest scalars h (ap (λ (vs : Tokens). l.Mark m.OpenCurly ∷ vs)
    (whole ∙ ap (λ (vs : Tokens). vs ++ rest) closed ∙ append_assoc us (l.Mark m.CloseCurly ∷ []) rest))

read : (ts : Tokens) (x : Reading (List Scalar)) → members_at ts ≡ x → Owes AreMembers members_at [] ts x
read ts x e = subst (λ (y : Reading (List Scalar)). Owes AreMembers members_at [] ts y) e (members_at_reads ts)

pub members_few : (ts : Tokens) (scalars : List Scalar) → SetsFit ts → BeginsSet ts scalars → length (set_of scalars) ≤ MOST_WRITTEN
members_few ts scalars fits (us, rest, opens, e) =
    let h = read us (Read scalars rest) e in
    let le = few us rest h.mid h.is.0 scalars (subst (λ (vs : Tokens). SetsFit vs) opens fits) h.whole h.is.1 h.is.2 in
    let small = set-size scalars in
    omega (arith, le, small)

-- so it is a set
pub is_set : {A : Type 0} (n : ℕ) (xs : A) (r : Option A) → n ≤ MOST_WRITTEN → r ≡ (if nat_le n MOST_MEMBERS then Some xs else None) → r ≡ None → ⊥
is_set {A} n xs r le e none =
    let few : nat_le n MOST_MEMBERS ≡ true = grind (arith, nat_tests) in
    some_none (sym none ∙ e ∙ ap (λ (b : Bool). if b then Some xs else None) few)
  where
    some_none : None ≡ Some xs → ⊥
    some_none h = cc
