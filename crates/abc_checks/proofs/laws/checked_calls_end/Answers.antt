use Rattle.abc_checks.proofs.Checked.{calls_end}
use Rattle.abc_checks.proofs.laws.checked_calls_end.Goals as goal

pub returns : goal.returns
returns c = calls_end
