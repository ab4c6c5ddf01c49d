use Rattle.abc_grammar.specs.Preds.{IsPred}
use Rattle.abc_reading.proofs.Exact.{exact}
use Rattle.abc_readers.specs.Preds.{pred}
use Rattle.abc_readers.specs.Laws.{EndsPred}
use Rattle.abc_readers.proofs.PredReads.{pred_reads}
use Rattle.abc_readers.proofs.PredWhole.{pred_ends, pred_reach}
use Rattle.abc_readers.proofs.laws.preds_are_read.Goals as goal

pub returns : goal.returns
returns c = exact IsPred EndsPred pred pred_reads (λ ts rest a h stops. pred_ends h rest stops.operand stops.ands stops.ors) (λ ts rest a h. pred_reach h rest)
