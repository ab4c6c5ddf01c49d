use Rattle.abc_printed_limits.proofs.Alone.{closed_prints_are_within}
use Rattle.abc_printed_limits.proofs.laws.closed_prints_are_within.Goals as goal

pub returns : goal.returns
returns c = closed_prints_are_within
