use Rattle.abc_traceable.proofs.Accepted.{accepted_are_traceable}
use Rattle.abc_traceable.proofs.laws.accepted_are_traceable.Goals as goal

pub returns : goal.returns
returns c = accepted_are_traceable
