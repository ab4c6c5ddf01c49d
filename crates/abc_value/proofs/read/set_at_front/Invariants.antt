use Rattle.std.proofs.Common.{◌-◌, length}
use Rattle.abc_value.proofs.Steps.{IsSetSoFar}
use Rattle.abc_value.proofs.read.set_at_front.Given as goal

abbrev pub invariant-members : goal.invariant-members
invariant-members l = IsSetSoFar l.bytes l.set l.at

abbrev pub decreases-members : goal.decreases-members
decreases-members l = length l.bytes - l.at
