use Rattle.std.proofs.Common.{◌∙◌, sym}
use Rattle.std.proofs.lemmas.Result.{IfOk-weaker}
use Rattle.abc_pred.specs.Standing.{expr_of}
use Rattle.abc_term.proofs.Bindings.{expr-bound}
use Rattle.abc_moves.proofs.evaluation.evaluated.Goals as goal

pub returns : goal.returns
returns g c =
    IfOk-weaker c.value_of.result _ _
    (λ v e. e ∙ sym (expr-bound (g.V.Variables.bound c.args.vars.now) (expr_of c.args.e.now) c.args.own.now)) c.value_of.ensures
