-- The first limit of a program that its tokens pass.
use Rattle.std.specs.Prelude.{ℕ, ◌+◌, ◌<◌, List, length, take}
use Rattle.abc_cause.specs.declared.Cause.{Cause}
use Rattle.abc_grammar.specs.declared.lexemes.Lexeme.{Lexeme}
use Rattle.abc_grammar.specs.Limits.{Begins, IsTooLarge}
use Rattle.abc_grammar.specs.Refusals.{PassesLimit, IsWithin, IsSomeProgram, order}
use Rattle.abc_limits.specs.declared.program.Limit.{Limit}
use Rattle.abc_limits.specs.declared.program.Limit.TheVariants as limit

-- No token before token k passes a limit. Where the tokens before it begin a program it passes this one, and none
-- that comes before this one in the order of causes.
pub record IsPassed (ts : List Lexeme) (k : ℕ) (c : Cause) : Type 0 where
  pub exists : k < length ts
  pub within : IsWithin IsSomeProgram IsTooLarge ts k
  pub passes : Begins IsSomeProgram (take k ts) → PassesLimit IsSomeProgram IsTooLarge c ts k
  pub first : (d : Cause) → order d < order c → ¬ PassesLimit IsSomeProgram IsTooLarge d ts k

-- No token before token k passes a limit, and with it the tokens begin no program.
pub record IsStray (ts : List Lexeme) (k : ℕ) : Type 0 where
  pub exists : k < length ts
  pub within : IsWithin IsSomeProgram IsTooLarge ts k
  pub wrong : ¬ Begins IsSomeProgram (take (k + 1) ts)

abbrev pub IsLimitOf : List Lexeme → Limit → Type 0
IsLimitOf ts limit.Within = IsWithin IsSomeProgram IsTooLarge ts (length ts)
IsLimitOf ts (limit.Passed k c) = IsPassed ts k c
IsLimitOf ts (limit.Stray k) = IsStray ts k
