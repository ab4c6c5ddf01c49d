use Rattle.std.proofs.Common.{◌-◌, length}
use Rattle.abc_value.proofs.Steps.{IsPassedSoFar}
use Rattle.abc_value.proofs.read.has_set.Given as goal

abbrev pub invariant-members : goal.invariant-members
invariant-members l = IsPassedSoFar l.bytes l.count l.last l.at

abbrev pub decreases-members : goal.decreases-members
decreases-members l = length l.bytes - l.at
