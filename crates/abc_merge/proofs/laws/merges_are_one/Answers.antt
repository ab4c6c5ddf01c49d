use Rattle.abc_merge.proofs.OneMerge.{one-merge}
use Rattle.abc_merge.proofs.laws.merges_are_one.Goals as goal

pub returns : goal.returns
returns g c = one-merge
