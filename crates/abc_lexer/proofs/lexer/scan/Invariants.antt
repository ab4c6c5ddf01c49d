use Rattle.std.proofs.Common.{◌≤◌, length}
use Rattle.abc_lexer.proofs.Scans.{ReadsOn}
use Rattle.abc_lexer.proofs.lexer.scan.Given as goal

abbrev pub invariant-tokens : goal.invariant-tokens
invariant-tokens l = record { reads : ReadsOn l.bytes l.tokens l.before l.rest; shorter : length l.rest ≤ length l.bytes }

abbrev pub decreases-tokens : goal.decreases-tokens
decreases-tokens l = length l.rest
