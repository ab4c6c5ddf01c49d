use Rattle.abc_traceable.proofs.Starting.{runs_are_told}
use Rattle.abc_traceable.proofs.laws.runs_are_told.Goals as goal

pub returns : goal.returns
returns c = runs_are_told
