use Rattle.abc_trace_preds.proofs.Stay.{preds_stay as the_law}
use Rattle.abc_trace_preds.proofs.laws.preds_stay.Goals as goal

pub returns : goal.returns
returns c = the_law
