-- Which limits can be passed at one token: those of tuples and of set literals never are.
use Rattle.std.specs.Prelude.{ℕ, List}
use Rattle.abc_grammar.specs.declared.lexemes.Lexeme.{Lexeme}
use Rattle.abc_grammar.specs.Limits.{BeginsExtraExpr, BeginsExtraVariable, BeginsExtraScalar}
use Rattle.abc_grammar.specs.Refusals.{IsSomeProgram}

pub record LimitsMeet : Type 0 where
  pub exprs : (ts : List Lexeme) (k : ℕ) → BeginsExtraExpr IsSomeProgram ts k → ¬ BeginsExtraScalar ts k
  pub variables : (ts : List Lexeme) (k : ℕ) → BeginsExtraVariable IsSomeProgram ts k → ¬ BeginsExtraScalar ts k
