use Rattle.std.proofs.Common.{◌≡◌}
use Rattle.abc_pred.specs.Standing.{pred_of}
use Rattle.abc_readers.specs.Preds.{nots}
use Rattle.abc_phrases.proofs.pred.negated.Given as goal

abbrev pub invariant-loop-i : goal.invariant-loop-i
invariant-loop-i l = pred_of l.made ≡ nots l._i (pred_of l.fn.a)
