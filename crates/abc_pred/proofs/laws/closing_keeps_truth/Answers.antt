use Rattle.abc_pred.proofs.Closing.{sat-close}
use Rattle.abc_pred.proofs.laws.closing_keeps_truth.Goals as goal

pub returns : goal.returns
returns c = sat-close
