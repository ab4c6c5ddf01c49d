use Rattle.std.proofs.Common.{◌-◌, length}
use Rattle.abc_value.proofs.Digits.{IsSoFar}
use Rattle.abc_value.proofs.number.rest_of_number.Given as goal

abbrev pub invariant-digits : goal.invariant-digits
invariant-digits l = IsSoFar l.bytes l.most l.value l.at

abbrev pub decreases-digits : goal.decreases-digits
decreases-digits l = length l.bytes - l.at
