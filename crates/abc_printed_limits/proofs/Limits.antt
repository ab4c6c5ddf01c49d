-- What is printed of a program stays within each limit.
use Rattle.std.proofs.Common.{ℕ, ◌<◌, ◌≤◌, ◌⊎◌, inl, inr, List, length, take, arith}
use Rattle.std.proofs.lemmas.Bool.{cases_lt}
use Rattle.abc_cause.specs.declared.Cause.TheVariants as cause
use Rattle.abc_grammar.specs.declared.lexemes.Lexeme.{Lexeme}
use Rattle.abc_grammar.specs.declared.limits.TheConstants.{MOST_OPEN}
use Rattle.abc_grammar.specs.Limits.{At, opens, open_behind, IsTooDeep, IsTooLarge}
use Rattle.abc_grammar.specs.Refusals.{IsSomeProgram}
use Rattle.abc_grammar.specs.Plain.{PlainProgram}
use Rattle.abc_grammar.specs.Programs.{IsProgram}
use Rattle.abc_grammar_laws.specs.Crowding.{BeginsExtraPart}
use Rattle.abc_grammar_laws.specs.Short.{AreShort}
use Rattle.abc_grammar_laws.proofs.NoneTooMany.{short_tuples}
use Rattle.abc_grammar_laws.proofs.Crowded.{Found, found_or_short}
use Rattle.abc_limits.proofs.Passing.{none_below, order_small}
use Rattle.abc_printed.specs.Parts.{lexemes}
use Rattle.abc_printed.specs.Forms.{program_parts}
use Rattle.abc_printed_laws.proofs.Programs.{prints_are_terms}
use Rattle.abc_printed_limits.specs.Within.{ProgramIsWithin, PrintsAreWithin}
use Rattle.abc_printed_limits.proofs.Depths.{Fits, shallow_fits, fits_shallow}
use Rattle.abc_printed_limits.proofs.Items.{small_roomy, roomy_small}
use Rattle.abc_printed_limits.proofs.Programs.{program_fits, program_roomy}
use Rattle.abc_printed_limits.proofs.Sets.{no_extra_scalar}
use Rattle.abc_printed_limits.proofs.SetPrograms.{program_unfilled}

-- tokens that fit have none that is too deep
pub none_too_deep : (ts : List Lexeme) (k : ℕ) → k < length ts → Fits MOST_OPEN 0 ts → ¬ IsTooDeep ts k
none_too_deep ts k lt f h = let below = fits_shallow MOST_OPEN 0 ts k lt f h.opener in let full = h.full in absurd (omega (arith, below, full))

-- ---- a text within the limits
module _ (ts : List Lexeme) (within : ProgramIsWithin ts) where
  -- No bracket is too deep.
  pub text_fits : Fits MOST_OPEN 0 ts
  text_fits = shallow_fits MOST_OPEN 0 ts (omega arith) below
    where
      below : (k : ℕ) → k < length ts → At ts k opens → open_behind 0 (take k ts) < MOST_OPEN
      below k lt a = by (cases_lt (open_behind 0 (take k ts)) MOST_OPEN)
        where
          by : (open_behind 0 (take k ts) < MOST_OPEN) ⊎ (MOST_OPEN ≤ open_behind 0 (take k ts)) → open_behind 0 (take k ts) < MOST_OPEN
          by (inl less) = less
          by (inr le) = absurd (within k lt cause.TooDeep (record { opener = a; full = le }))

  -- No token is one too many.
  pub none_large : (k : ℕ) → ¬ IsTooLarge ts k
  none_large k h = within k h.exists cause.TooLarge h

  -- a part too many begins at a token
  extra_exists : (k : ℕ) → BeginsExtraPart ts k → k < length ts
  extra_exists k (inl e) = e.exists
  extra_exists k (inr e) = e.exists

  -- The tuples are short.
  are_short : (p : PlainProgram) → IsProgram ts p → AreShort p
  are_short p h = by (found_or_short ts h)
    where
      by : Found ts ⊎ AreShort p → AreShort p
      by (inl f) = absurd (within f.number (extra_exists f.number f.extra) cause.LongTuple f.extra)
      by (inr short) = short

-- ---- its print
-- A print of a program is within the limits where a text of it is.
pub prints_are_within : PrintsAreWithin
prints_are_within ts p h values within k lt c =
    let us = lexemes (program_parts p) in
    none_below IsSomeProgram IsTooLarge 7 us k (λ first. none_too_deep us k lt (program_fits h MOST_OPEN (text_fits ts within)))
    (λ first. roomy_small us (program_roomy h (small_roomy ts (none_large ts within))) k)
    (λ first. short_tuples us p (prints_are_terms.programs p values) (are_short ts within p h) k)
    (λ first. no_extra_scalar us k (program_unfilled p values)) c (order_small c)
