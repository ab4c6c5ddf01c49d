use Rattle.abc_value.proofs.Steps.{next_member, two_within}
use Rattle.abc_value.proofs.read.member_step.Goals as goal

pub read_scalar_at-requires : goal.read_scalar_at-requires
read_scalar_at-requires c = two_within _ c.requires

pub returns-in-Some : goal.returns-in-Some
returns-in-Some c = next_member _ _ _ c.requires c.in-Some.ensures
