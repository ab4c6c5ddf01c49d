use Rattle.abc_printed_limits.proofs.Limits.{prints_are_within}
use Rattle.abc_printed_limits.proofs.laws.prints_are_within.Goals as goal

pub returns : goal.returns
returns c = prints_are_within
