use Rattle.std.proofs.Common.{◌≡◌, ◌≤◌, ◌+◌, length}
use Rattle.abc_limits.specs.Written.{scalars_of}
use Rattle.abc_limits.specs.Limiting.{state_of, first_from, first_limit}
use Rattle.abc_limits.proofs.pred.first_limit_of_pred.Given as goal

abbrev pub invariant-loop-lexeme : goal.invariant-loop-lexeme
invariant-loop-lexeme l = record {
  same : first_from (state_of l.before) l.number l.rest ≡ first_limit l.lexemes;
  place : l.number + length l.rest ≡ length l.lexemes;
  depth : l.before.depth ≤ l.number;
  size : l.before.size ≤ l.number;
  written : scalars_of l.before.written ≤ l.number;
}

abbrev pub decreases-loop-lexeme : goal.decreases-loop-lexeme
decreases-loop-lexeme l = length l.rest
