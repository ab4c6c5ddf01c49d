-- Where no token before one passes a limit, no set literal that ends with that token or before it is too long.
use Rattle.std.proofs.Common.{◌≡◌, ℕ, ◌+◌, ◌<◌, ◌≤◌, ◌⊎◌, inl, inr, List, [], ◌∷◌, ◌++◌, length, take, sym, ap, ◌∙◌, append_assoc, length-append, arith}
use Rattle.std.proofs.lemmas.Bool.{cases_lt}
use Rattle.abc_value.specs.declared.scalar.Scalar.{Scalar}
use Rattle.abc_cause.specs.declared.Cause.TheVariants as cause
use Rattle.abc_grammar.specs.declared.lexemes.Lexeme.{Lexeme}
use Rattle.abc_grammar.specs.declared.lexemes.Lexeme.TheVariants as l
use Rattle.abc_text.specs.declared.words.Mark.TheVariants as m
use Rattle.abc_grammar.specs.declared.limits.TheConstants.{MOST_WRITTEN}
use Rattle.abc_grammar.specs.Literals.{IsScalar}
use Rattle.abc_grammar_laws.proofs.Cuts.{Cut, cut, scalar_some}
use Rattle.abc_phrases.specs.Fitting.{SetsFit}
use Rattle.abc_readers.specs.Operands.{Tokens}
use Rattle.abc_parse.proofs.Lists.{take_front, take_short, take_fits}
use Rattle.abc_parse.proofs.Causes.{NoLimits}

module _ (IsWhole : Tokens → Type 0) (IsOneTooMany : Tokens → ℕ → Type 0) (ts : Tokens) (n : ℕ) (none : NoLimits IsWhole IsOneTooMany ts n) where
  -- behind the last scalar that may be written, a comma and one more token, and then the brace
  too_long : (d : ℕ) → d ≤ n + 1 → (before parts after : Tokens) → take d ts ≡ before ++ l.Mark m.OpenCurly ∷ parts ++ l.Mark m.CloseCurly ∷ after →
      Cut IsScalar MOST_WRITTEN parts → ⊥
  too_long d le before parts after e c =
      let front : Tokens = before ++ l.Mark m.OpenCurly ∷ c.front ++ l.Mark m.Comma ∷ [] in
      let back : Tokens = c.back ++ l.Mark m.CloseCurly ∷ after in
      let split : before ++ l.Mark m.OpenCurly ∷ (c.front ++ l.Mark m.Comma ∷ c.back) ++ l.Mark m.CloseCurly ∷ after ≡ front ++ back = simp append_assoc in
      let whole : take d ts ≡ front ++ back =
      e ∙ ap (λ (ws : Tokens). before ++ l.Mark m.OpenCurly ∷ ws ++ l.Mark m.CloseCurly ∷ after) c.whole ∙ split in
      let some = c.some scalar_some in
      let size = ap (length {A = Lexeme}) whole ∙ length-append front back in
      let rest = length-append c.back (l.Mark m.CloseCurly ∷ after) in
      let short = take_short d ts in
      let fits = take_fits d ts in
      none (length front) (omega (arith, some, size, rest, short, le)) cause.LongSet (record {
        exists = omega (arith, some, size, rest, fits);
        before = before;
        parts = c.front;
        scalars = c.items;
        listed = c.are;
        full = c.many;
        stands = take_front d ts front back whole;
      })

  pub front_fits : (d : ℕ) → d ≤ n + 1 → SetsFit (take d ts)
  front_fits d le before parts after scalars are e = by (cases_lt MOST_WRITTEN (length scalars))
    where
      by : (MOST_WRITTEN < length scalars) ⊎ (length scalars ≤ MOST_WRITTEN) → length scalars ≤ MOST_WRITTEN
      by (inl lt) = absurd (too_long d le before parts after e (cut MOST_WRITTEN (omega arith) are lt))
      by (inr few) = few
