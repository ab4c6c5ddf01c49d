use Rattle.std.proofs.Common.{arith}
use Rattle.abc_value.proofs.Gap.{pass_end}
use Rattle.abc_value.proofs.set.first_gap.Goals as goal

pub returns-clause-value : goal.returns-clause-value
returns-clause-value c = pass_end _ c.loop-member.member-index _ c.requires.rises (omega arith) c.loop-member.invariant.1
