use Rattle.std.proofs.Common.{◌-◌, length}
use Rattle.abc_value.proofs.Texts.{IsTextSoFar}
use Rattle.abc_value.proofs.quoted.text.Given as goal

abbrev pub invariant-pieces : goal.invariant-pieces
invariant-pieces l = IsTextSoFar l.bytes l.held l.at

abbrev pub decreases-pieces : goal.decreases-pieces
decreases-pieces l = length l.bytes - l.at
