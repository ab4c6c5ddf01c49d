use Rattle.std.proofs.Common.{length}
use Rattle.abc_lexemes.proofs.SoFar.{IsSoFar}
use Rattle.abc_lexemes.proofs.lexed.read_lexemes.Given as goal

abbrev pub invariant-tokens : goal.invariant-tokens
invariant-tokens l = IsSoFar l.names l.bytes l.tokens l.lexemes l.known l.before l.rest

abbrev pub decreases-tokens : goal.decreases-tokens
decreases-tokens l = length l.rest
