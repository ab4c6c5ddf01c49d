-- The limits of a predicate that stands alone, found by going once over its tokens.
use Rattle.std.specs.Prelude.{ℕ, ◌+◌, ◌&&◌, Bool, true, false, nat_le, List, [], ◌∷◌, Option, Some, None, if◌then◌else◌}
use Rattle.abc_cause.specs.declared.Cause.{Cause}
use Rattle.abc_cause.specs.declared.Cause.TheVariants.{TooDeep, TooLarge, LongSet}
use Rattle.abc_grammar.specs.declared.lexemes.Lexeme.{Lexeme}
use Rattle.abc_grammar.specs.declared.limits.TheConstants.{MOST_OPEN, MOST_TOKENS}
use Rattle.abc_grammar.specs.Limits.{opens, open_with}
use Rattle.abc_grammar.specs.Sizes as sizes
use Rattle.abc_grammar.specs.Sizes.{counts, spot_behind}
use Rattle.abc_limits.specs.declared.pred.Spot.{Spot}
use Rattle.abc_limits.specs.declared.pred.Spot.TheVariants as spot
use Rattle.abc_limits.specs.declared.scalars.Written.{Written}
use Rattle.abc_limits.specs.declared.scalars.Written.TheVariants.{Outside}
use Rattle.abc_limits.specs.declared.pred.Before.{Before}
use Rattle.abc_limits.specs.Written.{written_behind, is_full}

abbrev pub spot_of : Spot → sizes.Spot
spot_of spot.Free = sizes.Free
spot_of spot.Behind = sizes.Behind
spot_of spot.Signed = sizes.Signed
spot_of spot.Within = sizes.Within

pub record State : Type 0 where
  pub depth : ℕ
  pub spot : sizes.Spot
  pub size : ℕ
  pub written : Written

abbrev pub state_of : Before → State
state_of c = record { depth = c.depth; spot = spot_of c.spot; size = c.size; written = c.written }

abbrev pub start : State
start = record { depth = 0; spot = sizes.Free; size = 0; written = Outside }

abbrev pub passed : State → Lexeme → Option Cause
passed s t =
    if opens t && nat_le MOST_OPEN s.depth then Some TooDeep
    else (if counts s.spot t && nat_le MOST_TOKENS s.size then Some TooLarge
    else (if is_full s.written then Some LongSet else None))

abbrev pub larger : ℕ → Bool → ℕ
larger n true = n + 1
larger n false = n

abbrev pub step : State → Lexeme → State
step s t = record {
  depth = open_with s.depth t;
  spot = spot_behind s.spot t;
  size = larger s.size (counts s.spot t);
  written = written_behind s.written t;
}

-- the first of these tokens, counted from `number` on, that passes a limit, and the first limit that it passes
abbrev pub first_by : Option Cause → ℕ → Option (ℕ × Cause) → Option (ℕ × Cause)
first_by None number more = more
first_by (Some c) number more = Some (number, c)

abbrev pub first_from : State → ℕ → List Lexeme → Option (ℕ × Cause)
first_from s number [] = None
first_from s number (t ∷ ts) = first_by (passed s t) number (first_from (step s t) (number + 1) ts)

unfoldable pub first_limit : List Lexeme → Option (ℕ × Cause)
first_limit ts = first_from start 0 ts
