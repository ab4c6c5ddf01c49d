use Rattle.std.proofs.Common.{length}
use Rattle.abc_moves.proofs.wanted.+first.Given as goal

abbrev pub decreases-first : goal.decreases-first
decreases-first l = length l.xs.now
