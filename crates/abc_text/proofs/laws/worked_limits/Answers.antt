use Rattle.abc_text.proofs.WorkedThrough.{worked_limits}
use Rattle.abc_text.proofs.laws.worked_limits.Goals as goal

pub returns : goal.returns
returns c = worked_limits
