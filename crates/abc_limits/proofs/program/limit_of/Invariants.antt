use Rattle.std.proofs.Common.{◌≡◌, ◌≤◌, ◌+◌, length}
use Rattle.std.specs.Prelude.{unwrap_or}
use Rattle.abc_limits.specs.Written.{scalars_of}
use Rattle.abc_limits.specs.Walking.{state_of, limit_from, limit_of}
use Rattle.abc_limits.proofs.program.limit_of.Given as goal

abbrev pub invariant-loop-lexeme : goal.invariant-loop-lexeme
invariant-loop-lexeme l = record {
  same : limit_from (state_of l.walk) l.number l.rest ≡ limit_of l.lexemes;
  place : l.number + length l.rest ≡ length l.lexemes;
  item : unwrap_or l.walk.item 0 ≤ l.number;
  written : scalars_of l.walk.written ≤ l.number;
}

abbrev pub decreases-loop-lexeme : goal.decreases-loop-lexeme
decreases-loop-lexeme l = length l.rest
