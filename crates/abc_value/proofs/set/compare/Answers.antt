use Rattle.std.proofs.Common.{◌∙◌}
use Rattle.abc_value.proofs.Compare.{derived-cmp}
use Rattle.abc_value.proofs.set.compare.Goals as goal

pub returns : goal.returns
returns c = c.cmp.ensures ∙ derived-cmp c.args.x.now c.args.y.now
