use Rattle.abc_value.proofs.Printed.{same_decides}
use Rattle.abc_value.proofs.laws.same_is_equality.Goals as goal

pub returns : goal.returns
returns c = same_decides
