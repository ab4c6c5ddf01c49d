use Rattle.std.proofs.Common.{◌≡◌, ◌≤◌, length}
use Rattle.abc_text.specs.Tokens.{skip_from, skip}
use Rattle.abc_lexer.proofs.run.skip.Given as goal

abbrev pub invariant-loop-first : goal.invariant-loop-first
invariant-loop-first l = record { same : skip_from l.open l.rest ≡ skip l.bytes; shorter : length l.rest ≤ length l.bytes }

abbrev pub decreases-loop-first : goal.decreases-loop-first
decreases-loop-first l = length l.rest
