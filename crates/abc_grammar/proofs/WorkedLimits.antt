-- The examples of limits.
use Rattle.std.proofs.Common.{◌≡◌, ℕ, zero, suc, ◌≤◌, ◌<◌, Bool, true, false, List, [], ◌∷◌, ◌++◌, length, take, refl, sym, ap, ◌∙◌, subst, arith, length-append, length-take-le}
use Rattle.std.specs.Prelude.{replicate, fold, IsTrue, if◌then◌else◌}
use Rattle.std.proofs.lemmas.List.{length-replicate}
use Rattle.std.proofs.Math.Seq.{take-append_seam}
use Rattle.abc_grammar.specs.declared.lexemes.Lexeme.{Lexeme}
use Rattle.abc_grammar.specs.declared.lexemes.Lexeme.TheVariants as l
use Rattle.abc_text.specs.declared.words.Mark.TheVariants as m
use Rattle.abc_text.specs.declared.words.Keyword.TheVariants as k
use Rattle.abc_grammar.specs.Limits.{At, starts_item, IsTooDeep, IsTooLarge, BeginsExtraToken}
use Rattle.abc_grammar.specs.Sizes.{Spot, Free, spot_behind, counts, size_from}
use Rattle.abc_grammar.specs.Examples.{ones}
use Rattle.abc_grammar.specs.LimitExamples.{zeros, BracketLimits, TokenLimits, PartLimits}
use Rattle.abc_grammar.proofs.Worked.{no_start}
use Rattle.abc_grammar.proofs.Short.{few_open}
use Rattle.abc_grammar.proofs.Commas.{commas, commas-append, enough_commas}

-- a fact of a token is one of a token that is there
at_within : (ts : List Lexeme) (k : ℕ) (p : Lexeme → Bool) → At ts k p → k < length ts
at_within [] k p h = absurd h
at_within (t ∷ ts) zero p h = omega arith
at_within (t ∷ ts) (suc k) p h = let more = at_within ts k p h in omega (arith, more)

-- and of the token behind others
at_behind : (ts us : List Lexeme) (t : Lexeme) (p : Lexeme → Bool) → IsTrue (p t) → At (ts ++ t ∷ us) (length ts) p
at_behind [] us t p h = h
at_behind (x ∷ ts) us t p h = at_behind ts us t p h

-- ---- brackets
no_hundred : (n k : ℕ) → n ≤ 100 → ¬ IsTooDeep (replicate n (l.Mark m.OpenCurly)) k
no_hundred n k small h =
    let here = at_within (replicate n (l.Mark m.OpenCurly)) k _ h.opener in
    let long = length-replicate n (l.Mark m.OpenCurly) in
    let front = length-take-le k (replicate n (l.Mark m.OpenCurly)) (omega (arith, here)) in
    let full = h.full in
    absurd (omega (arith, full, here, long, front, few_open (take k (replicate n (l.Mark m.OpenCurly))) 0))

pub bracket_limits : BracketLimits
bracket_limits = record {
  round = record { opener = refl; full = omega arith };
  square = record { opener = refl; full = omega arith };
  curly = record { opener = refl; full = omega arith };
  hundred = λ k. no_hundred 100 k (omega arith);
  closed = λ h. let full = h.full in absurd (omega (arith, full));
}

-- ---- tokens of a definition or a component
no_later_start : (t : Lexeme) (n i : ℕ) → 0 < i → ¬ At (t ∷ zeros n) i starts_item
no_later_start t n zero above h = absurd (omega arith)
no_later_start t n (suc i) above h = no_start n i h

no_room : (n i : ℕ) → n ≤ 2047 → ¬ IsTooLarge (l.Keyword k.Comp ∷ zeros n) i
no_room n i small h = let e = h.counted in let x = h.exists in let long = length-replicate n (l.Number 0) in absurd (omega (arith, e, x, long))

starts_anew : (n k : ℕ) (t u : Lexeme) → n ≡ 2047 → IsTrue (starts_item u) → ¬ IsTooLarge (t ∷ zeros n ++ u ∷ []) k
starts_anew n k t u same is h =
    let e = h.counted in
    let x = h.exists in
    let long = length-replicate n (l.Number 0) in
    let whole = length-append (t ∷ zeros n) (u ∷ []) in
    h.last (length (t ∷ zeros n)) (omega (arith, e, x, long, whole)) (omega (arith, e, x, long, whole)) (at_behind (t ∷ zeros n) [] u starts_item is)

-- ---- tokens of a predicate
abbrev nots : ℕ → List Lexeme
nots n = replicate n (l.Keyword k.Not)

free_behind : (n : ℕ) → fold spot_behind Free (nots n) ≡ Free
free_behind zero = refl
free_behind (suc n) = free_behind n

size-nots : (n : ℕ) → size_from Free (nots n) ≡ n
size-nots zero = refl
size-nots (suc n) = let more = size-nots n in omega (arith, more)

at_most_one : (b : Bool) → (if b then 1 else 0) ≤ 1
at_most_one true = omega arith
at_most_one false = omega arith

size_short : (spot : Spot) (ts : List Lexeme) → size_from spot ts ≤ length ts
size_short spot [] = omega arith
size_short spot (t ∷ ts) = let more = size_short (spot_behind spot t) ts in let one = at_most_one (counts spot t) in omega (arith, more, one)

extra_token : (n : ℕ) (t : Lexeme) → n ≡ 2048 → BeginsExtraToken (nots n ++ t ∷ []) (length (nots n))
extra_token n t same =
    let front : take (length (nots n)) (nots n ++ t ∷ []) ≡ nots n = take-append_seam (nots n) (t ∷ []) in
    record {
      counted = subst (λ (us : List Lexeme). At (nots n ++ t ∷ []) (length (nots n)) (counts (fold spot_behind Free us))) (sym front)
          (subst (λ (spot : Spot). At (nots n ++ t ∷ []) (length (nots n)) (counts spot)) (sym (free_behind n))
          (at_behind (nots n) [] t (counts Free) refl));
      full = let size = ap (size_from Free) front ∙ size-nots n in omega (arith, size, same);
    }

no_pred_room : (n i : ℕ) → n ≤ 2048 → ¬ BeginsExtraToken (nots n) i
no_pred_room n i small h =
    let here = at_within (nots n) i _ h.counted in
    let long = length-replicate n (l.Keyword k.Not) in
    let front = length-take-le i (nots n) (omega (arith, here)) in
    let full = h.full in
    absurd (omega (arith, full, here, long, front, size_short Free (take i (nots n))))

pub token_limits : TokenLimits
token_limits = record {
  component = record {
    exists = let long = length-replicate 2048 (l.Number 0) in omega (arith, long);
    start = 0;
    starts = refl;
    last = λ i above below h. no_later_start (l.Keyword k.Comp) 2048 i above h;
    counted = refl;
  };
  whole = λ i. no_room 2047 i (omega arith);
  next_definition = λ i. starts_anew 2047 i (l.Keyword k.Def) (l.Keyword k.Def) refl refl;
  next_component = λ i. starts_anew 2047 i (l.Keyword k.Def) (l.Keyword k.Comp) refl refl;
  pred = subst (BeginsExtraToken (nots 2048 ++ l.Number 0 ∷ [])) (length-replicate 2048 (l.Keyword k.Not)) (extra_token 2048 (l.Number 0) refl);
  whole_pred = λ i. no_pred_room 2048 i (omega arith);
}

-- ---- parts
commas-ones : (n : ℕ) → commas (ones n) ≡ n
commas-ones zero = refl
commas-ones (suc n) = let more = commas-ones n in omega (arith, more, commas-append (ones n) (l.Mark m.Comma ∷ l.Number 1 ∷ []))

pub part_limits : PartLimits
part_limits = record {
  eight_exprs = λ k h. let full = h.full in let few = enough_commas k _ h.before _ h.listed h.stands in absurd (omega (arith, full, few));
  eight_variables = λ k h. let full = h.full in let few = enough_commas k _ h.before _ h.listed h.stands in absurd (omega (arith, full, few));
  scalars = λ k h.
      let full = h.full in
      let few = enough_commas k _ h.before _ h.listed h.stands in
      absurd (omega (arith, full, few, commas-append (ones 255) (l.Mark m.CloseCurly ∷ []), commas-ones 255));
}
