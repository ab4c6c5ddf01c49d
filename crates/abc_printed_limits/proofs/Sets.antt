-- Each set literal of a print has as many scalars as a set may have members, and nothing else of it reads as one.
use Rattle.std.proofs.Common.{◌≡◌, ℕ, zero, suc, ◌+◌, ◌<◌, ◌≤◌, Bool, true, false, List, [], ◌∷◌, ◌++◌, length, take, refl, sym, ap, ◌∙◌, subst, arith}
use Rattle.std.specs.Prelude.{fold, All, flat_map, if◌then◌else◌, nat_lt, pos, negsuc}
use Rattle.std.proofs.lemmas.Bool.Decides.{nat_tests}
use Rattle.std.proofs.lemmas.List.Elements.{All-head, All-tail}
use Rattle.std.proofs.lemmas.List.Sums.{fold-append}
use Rattle.abc_value.specs.declared.scalar.Scalar.{Scalar}
use Rattle.abc_value.specs.declared.scalar.Scalar.TheVariants as s
use Rattle.abc_value.specs.declared.value.Value.{Value}
use Rattle.abc_value.specs.declared.value.Value.TheVariants as v
use Rattle.abc_value.specs.Literals.{IsScalar, IsValue}
use Rattle.abc_value.specs.Sets.{IsSet}
use Rattle.abc_text.specs.declared.words.Mark.{Mark}
use Rattle.abc_text.specs.declared.words.Mark.TheVariants as m
use Rattle.abc_grammar.specs.declared.lexemes.Lexeme.{Lexeme}
use Rattle.abc_grammar.specs.declared.lexemes.Lexeme.TheVariants as l
use Rattle.abc_grammar.specs.declared.limits.TheConstants.{MOST_WRITTEN}
use Rattle.abc_grammar.specs.Limits.{BeginsExtraScalar}
use Rattle.abc_limits.specs.declared.scalars.Written.{Written}
use Rattle.abc_limits.specs.declared.scalars.Written.TheVariants.{Outside, Expects, Counted}
use Rattle.abc_limits.specs.Written.{counted, written_behind, is_full}
use Rattle.abc_limits.proofs.Passing.{not_both, got, is_set}
use Rattle.abc_printed.specs.Parts.{Part, Token, Space, Line, lexemes, behind_comma, listed, bracketed}
use Rattle.abc_printed.specs.Forms.{spaced, scalar_parts, literal_parts}
use Rattle.abc_printed_laws.proofs.Parts.{lexemes-append}
use Rattle.abc_printed_limits.proofs.Literals.{more_members, more_members-cons}

-- ---- how scalars of a set literal are counted
-- where so many scalars stand before, no token of these begins one too many, and none that follows them does
abbrev pub Unfilled : Written → List Lexeme → Type 0
Unfilled w [] = is_full w ≡ false
Unfilled w (t ∷ ts) = (is_full w ≡ false) × Unfilled (written_behind w t) ts

-- such tokens, and the count behind them
pub record Passes (from to : Written) (ts : List Lexeme) : Type 0 where
  pub free : Unfilled from ts
  pub ends : fold written_behind from ts ≡ to

-- one list behind another
unfilled_append : (w : Written) (ts us : List Lexeme) → Unfilled w ts → Unfilled (fold written_behind w ts) us → Unfilled w (ts ++ us)
unfilled_append w [] us h k = k
unfilled_append w (t ∷ ts) us h k = (h.0, unfilled_append (written_behind w t) ts us h.1 k)

-- the same with the count behind them
pub passes_append : (from mid to : Written) (ts us : List Lexeme) → Passes from mid ts → Passes mid to us → Passes from to (ts ++ us)
passes_append from mid to ts us h k = record {
  free = unfilled_append from ts us h.free (subst (λ (w : Written). Unfilled w us) (sym h.ends) k.free);
  ends = fold-append written_behind from ts us ∙ ap (λ (w : Written). fold written_behind w us) h.ends ∙ k.ends;
}

-- behind a token
pub passes_cons : (from mid to : Written) (t : Lexeme) (ts : List Lexeme) → is_full from ≡ false → written_behind from t ≡ mid → Passes mid to ts →
    Passes from to (t ∷ ts)
passes_cons from mid to t ts e f h = record {
  free = (e, subst (λ (w : Written). Unfilled w ts) (sym f) h.free);
  ends = ap (λ (w : Written). fold written_behind w ts) f ∙ h.ends;
}

-- where none is one too many, the count of the tokens before one is not full
unfilled_take : (w : Written) (ts : List Lexeme) (n : ℕ) → Unfilled w ts → is_full (fold written_behind w (take n ts)) ≡ false
unfilled_take w [] zero h = h
unfilled_take w [] (suc n) h = h
unfilled_take w (t ∷ ts) zero h = h.0
unfilled_take w (t ∷ ts) (suc n) h = unfilled_take (written_behind w t) ts n h.1

-- no token of these begins a scalar too many
pub no_extra_scalar : (ts : List Lexeme) (n : ℕ) → Unfilled Outside ts → ¬ BeginsExtraScalar ts n
no_extra_scalar ts n h extra =
    let g = got ts n extra.exists in
    not_both (is_full (fold written_behind Outside (take n ts))) (is_set ts n g.0 g.1 extra) (unfilled_take Outside ts n h)

-- ---- parts that stand in no set literal
-- They begin and end outside of each.
pub record Still (ps : List Part) : Type 0 where
  pub passes : Passes Outside Outside (lexemes ps)

-- no parts
pub still_none : Still []
still_none = record { passes = record { free = refl; ends = refl } }

-- behind a space, and the end of a line
pub still_space : {ps : List Part} → Still ps → Still (Space ∷ ps)
still_space h = record { passes = h.passes }

pub still_line : {ps : List Part} → Still ps → Still (Line ∷ ps)
still_line h = record { passes = h.passes }

-- behind a token
pub still_cons : (t : Lexeme) {ps : List Part} → written_behind Outside t ≡ Outside → Still ps → Still (Token t ∷ ps)
still_cons t {ps} e h = record { passes = passes_cons Outside Outside Outside t (lexemes ps) refl e h.passes }

-- one list behind another
pub still_append : {ps qs : List Part} → Still ps → Still qs → Still (ps ++ qs)
still_append {ps} {qs} h k = record {
  passes = subst (Passes Outside Outside) (sym (lexemes-append ps qs))
      (passes_append Outside Outside Outside (lexemes ps) (lexemes qs) h.passes k.passes);
}

-- two sides and what stands between them
pub still_sides : (t : Lexeme) {ps qs : List Part} → written_behind Outside t ≡ Outside → Still ps → Still qs → Still (ps ++ spaced (Token t) ++ qs)
still_sides t e h k = still_append (still_append h (still_space (still_cons t e (still_space still_none)))) k

-- in brackets that open no set
pub still_inside : (opener closer : Lexeme) {ps : List Part} → written_behind Outside opener ≡ Outside → written_behind Outside closer ≡ Outside →
    Still ps → Still (Token opener ∷ ps ++ Token closer ∷ [])
still_inside opener closer e f h = still_cons opener e (still_append h (still_cons closer f still_none))

-- the same where the grade asks for them
pub still_bracketed : (opener closer : Mark) (asked grade : ℕ) {ps : List Part} → written_behind Outside (l.Mark opener) ≡ Outside →
    written_behind Outside (l.Mark closer) ≡ Outside → Still ps → Still (bracketed opener closer asked grade ps)
still_bracketed opener closer asked grade {ps} e f h = by (nat_lt grade asked)
  where
    by : (b : Bool) → Still (if b then Token (l.Mark opener) ∷ ps ++ Token (l.Mark closer) ∷ [] else ps)
    by true = still_inside (l.Mark opener) (l.Mark closer) e f h
    by false = h

-- items parted by commas
module _ {A : Type 0} (Good : A → Type 0) (print : A → List Part) (each : (a : A) → Good a → Still (print a)) where
  -- the items behind the first
  still_more : (items : List A) → All Good items → Still (flat_map (behind_comma print) items)
  still_more [] good = still_none
  still_more (a ∷ items) good =
      still_append (still_cons (l.Mark m.Comma) refl (still_space (each a (All-head Good a items good))))
      (still_more items (All-tail Good a items good))

  -- all of them
  pub still_listed : (items : List A) → All Good items → Still (listed print items)
  still_listed [] good = still_none
  still_listed (a ∷ items) good = still_append (each a (All-head Good a items good)) (still_more items (All-tail Good a items good))

  -- items one behind another
  pub still_repeated : (items : List A) → All Good items → Still (flat_map print items)
  still_repeated [] good = still_none
  still_repeated (a ∷ items) good = still_append (each a (All-head Good a items good)) (still_repeated items (All-tail Good a items good))

-- ---- literals
-- a scalar outside of a set
scalar_still : (x : Scalar) → Still (scalar_parts x)
scalar_still (s.Number (pos n)) = record { passes = record { free = (refl, refl); ends = refl } }
scalar_still (s.Number (negsuc n)) = record { passes = record { free = (refl, (refl, refl)); ends = refl } }
scalar_still (s.Text bytes) = record { passes = record { free = (refl, refl); ends = refl } }
scalar_still (s.Truth true) = record { passes = record { free = (refl, refl); ends = refl } }
scalar_still (s.Truth false) = record { passes = record { free = (refl, refl); ends = refl } }

-- a scalar in a set literal that has n before
scalar_counted : (n : ℕ) (x : Scalar) → IsScalar x → is_full (Expects n) ≡ false → Passes (Expects n) (Counted (n + 1)) (lexemes (scalar_parts x))
scalar_counted n (s.Number (pos i)) h e = record { free = (e, ap (λ (b : Bool). is_full (counted n b)) h); ends = ap (counted n) h }
scalar_counted n (s.Number (negsuc i)) h e = record { free = (e, (refl, ap (λ (b : Bool). is_full (counted n b)) h)); ends = ap (counted n) h }
scalar_counted n (s.Text bytes) h e = record { free = (e, refl); ends = refl }
scalar_counted n (s.Truth true) h e = record { free = (e, refl); ends = refl }
scalar_counted n (s.Truth false) h e = record { free = (e, refl); ends = refl }

-- fewer scalars than may be
not_full : (n : ℕ) → n < MOST_WRITTEN → is_full (Expects n) ≡ false
not_full n lt = grind (arith, nat_tests)

-- the members behind the first n
members_counted : (n : ℕ) (xs : List Scalar) → All IsScalar xs → n + length xs ≤ MOST_WRITTEN →
    Passes (Counted n) (Counted (n + length xs)) (lexemes (more_members xs))
members_counted n [] good le = record { free = refl; ends = ap (λ (i : ℕ). Counted i) (omega arith) }
members_counted n (x ∷ xs) good le =
    let first = scalar_counted n x (All-head IsScalar x xs good) (not_full n (omega (arith, le))) in
    let more = members_counted (n + 1) xs (All-tail IsScalar x xs good) (omega (arith, le)) in
    let same : n + 1 + length xs ≡ n + suc (length xs) = omega arith in
    subst (Passes (Counted n) (Counted (n + suc (length xs)))) (sym (more_members-cons x xs))
    (subst (λ (i : ℕ). Passes (Counted n) (Counted i) (l.Mark m.Comma ∷ lexemes (scalar_parts x) ++ lexemes (more_members xs))) same
    (passes_cons (Counted n) (Expects n) (Counted (n + 1 + length xs)) (l.Mark m.Comma)
    (lexemes (scalar_parts x) ++ lexemes (more_members xs)) refl refl
    (passes_append (Expects n) (Counted (n + 1)) (Counted (n + 1 + length xs)) (lexemes (scalar_parts x)) (lexemes (more_members xs)) first more)))

-- a set has no more members than may be written
set_still : (xs : List Scalar) → IsSet xs → All IsScalar xs → Still (literal_parts (v.Set xs))
set_still [] h good = record { passes = record { free = (refl, (refl, refl)); ends = refl } }
set_still (x ∷ xs) h good =
    let fits = h.fits in
    let first = scalar_counted 0 x (All-head IsScalar x xs good) refl in
    let more = members_counted 1 xs (All-tail IsScalar x xs good) (omega (arith, fits)) in
    let closes : Passes (Counted (1 + length xs)) Outside (l.Mark m.CloseCurly ∷ []) = record { free = (refl, refl); ends = refl } in
    let members = lexemes (scalar_parts x) ++ lexemes (more_members xs) in
    let e : lexemes (listed scalar_parts (x ∷ xs) ++ Token (l.Mark m.CloseCurly) ∷ []) ≡ members ++ l.Mark m.CloseCurly ∷ [] =
    lexemes-append (listed scalar_parts (x ∷ xs)) (Token (l.Mark m.CloseCurly) ∷ [])
    ∙ ap (λ (ts : List Lexeme). ts ++ l.Mark m.CloseCurly ∷ []) (lexemes-append (scalar_parts x) (more_members xs)) in
    record {
      passes = subst (λ (ts : List Lexeme). Passes Outside Outside (l.Mark m.OpenCurly ∷ ts)) (sym e)
          (passes_cons Outside (Expects 0) Outside (l.Mark m.OpenCurly) (members ++ l.Mark m.CloseCurly ∷ []) refl refl
          (passes_append (Expects 0) (Counted (1 + length xs)) Outside members (l.Mark m.CloseCurly ∷ [])
          (passes_append (Expects 0) (Counted 1) (Counted (1 + length xs)) (lexemes (scalar_parts x)) (lexemes (more_members xs)) first more)
          closes));
    }

-- What is printed of a value has no scalar too many.
pub literal_still : (x : Value) → IsValue x → Still (literal_parts x)
literal_still (v.Scalar x) h = scalar_still x
literal_still (v.Set xs) h = set_still xs h.0 h.1
literal_still v.Nothing h = record { passes = record { free = (refl, refl); ends = refl } }
