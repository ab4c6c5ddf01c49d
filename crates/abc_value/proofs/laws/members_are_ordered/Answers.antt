use Rattle.abc_value.proofs.Printed.{members_ordered}
use Rattle.abc_value.proofs.laws.members_are_ordered.Goals as goal

pub returns : goal.returns
returns c = members_ordered
