-- What is printed of the closed predicate of an output stays within the limits of a predicate that stands alone.
use Rattle.std.proofs.Common.{ℕ, zero, suc, ◌<◌, ◌≤◌, ◌⊎◌, inl, inr, Bool, List, [], ◌∷◌, ◌++◌, length, take, Some, refl, ap, subst, arith}
use Rattle.std.specs.Prelude.{fold, All, Any, if◌then◌else◌}
use Rattle.abc_pred.specs.Terms.{Pred}
use Rattle.abc_pred.specs.Maps.{Entries}
use Rattle.abc_pred.specs.Meaning.{close}
use Rattle.abc_term.specs.Processes.{Process}
use Rattle.abc_term.specs.Processes as P
use Rattle.abc_text.specs.declared.words.Mark.TheVariants as m
use Rattle.abc_grammar.specs.declared.lexemes.Lexeme.{Lexeme}
use Rattle.abc_grammar.specs.declared.lexemes.Lexeme.TheVariants as l
use Rattle.abc_grammar.specs.declared.limits.TheConstants.{MOST_OPEN, MOST_TOKENS}
use Rattle.abc_grammar.specs.Limits.{At, open_behind, BeginsExtraToken, BeginsExtraExpr, BeginsExtraVariable}
use Rattle.abc_grammar.specs.Sizes.{Spot, Free, spot_behind, counts, size_from, size_of}
use Rattle.abc_grammar.specs.Refusals.{IsSomePred}
use Rattle.abc_grammar.specs.Plain.{PlainProgram}
use Rattle.abc_grammar.specs.Programs.{IsProgram}
use Rattle.abc_limits.proofs.NoTuples.{no_extra_expr, no_extra_variable}
use Rattle.abc_limits.proofs.Passing.{none_below, order_small, is_at}
use Rattle.abc_printed.specs.Parts.{Part, lexemes}
use Rattle.abc_printed.specs.Forms.{pred_parts}
use Rattle.abc_printed.specs.Printable.{PredHasValues, ProcessHasValues, DefinitionHasValues, ComponentHasValues, ProgramHasValues}
use Rattle.abc_printed_laws.specs.Outputs.{HasOutput, ProgramHasOutput, StandsInside}
use Rattle.abc_printed_laws.proofs.Outputs.{outputs_stand}
use Rattle.abc_printed_limits.specs.Within.{ProgramIsWithin, ClosedPrintsAreWithin}
use Rattle.abc_printed_limits.proofs.Depths.{Fits, fits_front, fits_back, fits_inside, Less}
use Rattle.abc_printed_limits.proofs.Operands.{pred_printed}
use Rattle.abc_printed_limits.proofs.Items.{small_roomy, few_inside, Roomy}
use Rattle.abc_printed_limits.proofs.Programs.{program_again}
use Rattle.abc_printed_limits.proofs.Sets.{Still, no_extra_scalar}
use Rattle.abc_printed_limits.proofs.SetTerms.{pred_still}
use Rattle.abc_printed_limits.proofs.Closings.{PredCloses, pred_closes, pred_values}
use Rattle.abc_printed_limits.proofs.Limits.{none_too_deep, text_fits, none_large}

-- ---- the predicate of an output has values
output_values : (A : Process) (q : Pred) → ProcessHasValues A → HasOutput A q → PredHasValues q
output_values P.Nil q h o = absurd o
output_values (P.Call c) q h o = absurd o
output_values (P.Output es p us A) q h (inl e) = subst PredHasValues e h.1
output_values (P.Output es p us A) q h (inr o) = output_values A q h.3 o
output_values (P.Input p xs us A) q h o = output_values A q h.2 o
output_values (P.When p A) q h o = output_values A q h.1 o
output_values (P.Choice A B) q h (inl o) = output_values A q h.0 o
output_values (P.Choice A B) q h (inr o) = output_values B q h.1 o
output_values (P.Par A B) q h (inl o) = output_values A q h.0 o
output_values (P.Par A B) q h (inr o) = output_values B q h.1 o

-- what holds of all holds of one of which something else holds
one_of : {A : Type 0} (X Y : A → Type 0) (items : List A) → All X items → Any Y items → (a : A) × X a × Y a
one_of X Y items all any = (any.1, subst X any.3 (all any.0 any.1 any.2), any.4)

-- and so each predicate of a program's outputs has values
program_values : (p : PlainProgram) (q : Pred) → ProgramHasValues p → ProgramHasOutput p q → PredHasValues q
program_values p q h (inl any) =
    let d = one_of DefinitionHasValues (λ d. HasOutput d.1 q) p.definitions h.definitions any in output_values (d.0).1 q d.1 d.2
program_values p q h (inr any) =
    let C = one_of ComponentHasValues (λ C. HasOutput C.run q) p.components h.components any in
    let values = C.1 in
    output_values (C.0).run q values.run C.2

-- ---- the limit of tokens
-- a token that counts is more than those before it
size_below : (from : Spot) (ts : List Lexeme) (k : ℕ) → k < length ts → At ts k (counts (fold spot_behind from (take k ts))) →
    size_from from (take k ts) < size_from from ts
size_below from [] k lt a = absurd (omega (arith, lt))
size_below from (t ∷ ts) zero lt a =
    let counted = is_at (t ∷ ts) 0 t (counts from) refl a in
    let one = ap {B = ℕ} (λ (b : Bool). if b then 1 else 0) counted in
    omega (arith, one)
size_below from (t ∷ ts) (suc k) lt a = let more = size_below (spot_behind from t) ts k (omega (arith, lt)) a in omega (arith, more)

-- no token is one too many of tokens that are not too many
none_too_many : (ts : List Lexeme) (k : ℕ) → k < length ts → size_of ts ≤ MOST_TOKENS → ¬ BeginsExtraToken ts k
none_too_many ts k lt le h = let less = size_below Free ts k lt h.counted in let full = h.full in absurd (omega (arith, less, full, le))

-- ---- the predicate in its text
-- what both kinds of closed predicates give
closed_less : {ps qs : List Part} → PredCloses ps qs → Less 1 (lexemes ps) (lexemes qs)
closed_less (inl h) = h.less
closed_less (inr h) = h.less

closed_size : {ps qs : List Part} → PredCloses ps qs → size_of (lexemes qs) ≤ length (lexemes ps)
closed_size (inl h) = h.size
closed_size (inr h) = h.size

module _ (ts : List Lexeme) (p : PlainProgram) (text : IsProgram ts p) (within : ProgramIsWithin ts) (q : Pred) (stands : StandsInside ts q) where
  -- the limit of brackets but one
  abbrev all_but_one : ℕ
  all_but_one = 99

  -- The tokens of the predicate leave room for one bracket more.
  inside_fits : Fits all_but_one 0 stands.inside
  inside_fits =
      let printed = pred_printed stands.pred in
      let less = printed.less in
      let f = subst (Fits MOST_OPEN 0) stands.stands (text_fits ts within) in
      let g = fits_back MOST_OPEN 0 stands.before (l.Mark m.OpenRound ∷ stands.inside)
      (fits_front MOST_OPEN 0 (stands.before ++ l.Mark m.OpenRound ∷ stands.inside) (l.Mark m.CloseRound ∷ stands.after) f) in
      fits_inside all_but_one (open_behind 0 stands.before) stands.inside less.text g.1

  -- They are not too many.
  inside_few : length stands.inside ≤ MOST_TOKENS
  inside_few =
      let printed = pred_printed stands.pred in
      let text_closed = (printed.less).text in
      few_inside stands.before (l.Mark m.OpenRound) stands.inside (l.Mark m.CloseRound ∷ stands.after) text_closed.inside
      (subst (Roomy (Some 0)) stands.stands (program_again text (small_roomy ts (none_large ts within))))

  module _ (own vars : Entries) where
    -- What is printed of it when it is closed.
    abbrev print : List Lexeme
    print = lexemes (pred_parts (close q own vars))

    -- No token of it is too deep.
    print_fits : Fits MOST_OPEN 0 print
    print_fits =
        let printed = pred_printed stands.pred in
        let less = printed.less in
        let more : Less 1 (lexemes (pred_parts q)) print = closed_less (pred_closes own vars q) in
        more.fits all_but_one 0 (less.fits all_but_one 0 inside_fits)

    -- Its tokens are not too many, a literal counting as one.
    print_few : size_of print ≤ MOST_TOKENS
    print_few =
        let printed = pred_printed stands.pred in
        let short = printed.shorter in
        let size : size_of print ≤ length (lexemes (pred_parts q)) = closed_size (pred_closes own vars q) in
        let few = inside_few in
        omega (arith, short, size, few)

-- ---- the law
-- The print of a closed predicate of an output is within the limits of a predicate that stands alone.
pub closed_prints_are_within : ClosedPrintsAreWithin
closed_prints_are_within ts p h values within q output own vars owns holds k lt c =
    let us = lexemes (pred_parts (close q own vars)) in
    let stands = outputs_stand ts p h q output in
    let still : Still (pred_parts (close q own vars)) =
    pred_still (close q own vars) (pred_values own vars owns holds q (program_values p q values output)) in
    let passes = still.passes in
    none_below IsSomePred BeginsExtraToken 7 us k (λ first. none_too_deep us k lt (print_fits ts p h within q stands own vars))
    (λ first. none_too_many us k lt (print_few ts p h within q stands own vars))
    (λ first. no_tuple us) (λ first. no_extra_scalar us k passes.free) c (order_small c)
  where
    no_tuple : (us : List Lexeme) → ¬ (BeginsExtraExpr IsSomePred us k ⊎ BeginsExtraVariable IsSomePred us k)
    no_tuple us (inl e) = no_extra_expr us k e
    no_tuple us (inr e) = no_extra_variable us k e
