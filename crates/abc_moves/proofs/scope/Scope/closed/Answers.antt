use Rattle.std.proofs.Common.{[], ◌∙◌, ap}
use Rattle.std.proofs.lemmas.Result.{IfOk-weaker}
use Rattle.abc_pred.specs.Meaning.{close}
use Rattle.abc_pred.specs.Standing.{pred_of}
use Rattle.abc_term.specs.Substitution.{put_pred}
use Rattle.abc_moves.proofs.Scoped.{close-scope}
use Rattle.abc_moves.proofs.scope.Scope.closed.Goals as goal

pub returns-clause-closing : goal.returns-clause-closing
returns-clause-closing c =
    let p = pred_of c.args.p.now in let own = c.args.own.now in
    IfOk-weaker c.close.result _ _
    (λ r e. e ∙ close-scope c.self.inside.bound c.self.inside.vars c.self.invariant p own ∙ ap (λ bs. close (put_pred bs p) own []) c.self.view_is)
    c.close.ensures.closing
