use Rattle.std.proofs.Common.{[], ◌∙◌, ap}
use Rattle.std.proofs.lemmas.Result.{IfOk-weaker}
use Rattle.abc_pred.specs.Meaning.{expr_val}
use Rattle.abc_pred.specs.Standing.{expr_of}
use Rattle.abc_term.specs.Substitution.{put_expr}
use Rattle.abc_moves.proofs.Scoped.{value-scope}
use Rattle.abc_moves.proofs.scope.Scope.value.Goals as goal

pub returns : goal.returns
returns c =
    let x = expr_of c.args.e.now in let own = c.args.own.now in
    IfOk-weaker c.eval.result _ _
    (λ v e. e ∙ value-scope c.self.inside.bound c.self.inside.vars c.self.invariant x own ∙ ap (λ bs. expr_val (put_expr bs x) own []) c.self.view_is)
    c.eval.ensures
