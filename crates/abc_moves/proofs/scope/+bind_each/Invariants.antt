use Rattle.std.proofs.Common.{length}
use Rattle.abc_moves.proofs.scope.+bind_each.Given as goal

abbrev pub decreases-bind_each : goal.decreases-bind_each
decreases-bind_each l = length l.xs.now
