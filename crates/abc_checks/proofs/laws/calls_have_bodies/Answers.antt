use Rattle.abc_checks.proofs.Checked.{bodies_there}
use Rattle.abc_checks.proofs.laws.calls_have_bodies.Goals as goal

pub returns : goal.returns
returns c = bodies_there
