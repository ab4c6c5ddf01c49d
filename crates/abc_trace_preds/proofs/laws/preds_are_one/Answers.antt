use Rattle.abc_trace_preds.proofs.Sents.{preds_are_one as the_law}
use Rattle.abc_trace_preds.proofs.laws.preds_are_one.Goals as goal

pub returns : goal.returns
returns c = the_law
