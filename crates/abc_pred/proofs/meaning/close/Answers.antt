use Rattle.std.proofs.Common.{◌∙◌, ap, sym, subst}
use Rattle.abc_pred.specs.Meaning.{IsClosed}
use Rattle.abc_pred.specs.Standing.{pred_of}
use Rattle.abc_pred.proofs.Closing.{closes}
use Rattle.abc_pred.proofs.meaning.close.Goals as goal

pub returns-clause-closed : goal.returns-clause-closed
returns-clause-closed c =
    subst IsClosed (sym (ap pred_of c.into_inner.ensures ∙ c.in_ok-closed.ensures)) (closes (pred_of c.args.p.now) c.args.own.now c.args.vars.now)
