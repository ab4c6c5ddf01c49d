use Rattle.abc_printed.proofs.Worked.{preds}
use Rattle.abc_printed.proofs.examples.worked_preds.Goals as goal

pub returns : goal.returns
returns c = preds
