use Rattle.std.proofs.Common.{◌≡◌, ◌∙◌, ap}
use Rattle.std.proofs.lemmas.Result.{IfOk-weaker}
use Rattle.abc_pred.specs.declared.syntax.Pred.{Pred}
use Rattle.abc_pred.specs.Maps.{Entries}
use Rattle.abc_pred.specs.Meaning.{close}
use Rattle.abc_pred.specs.Standing.{pred_of}
use Rattle.abc_run_trace.proofs.Closed.{closing_keeps}
use Rattle.abc_run_trace.proofs.copies.copy_pred.Goals as goal

pub returns : goal.returns
returns c =
    let p = pred_of c.args.label.now.pred in
    let own = c.empty-own.result in
    let vars = c.empty-vars.result in
    IfOk-weaker c.close.result (λ (q : Pred). pred_of q ≡ close p own vars)
    (λ (q : Pred). pred_of q ≡ p)
    (λ q e. e ∙ closing_keeps p own vars c.args.label.now.closed) c.close.ensures.closing
