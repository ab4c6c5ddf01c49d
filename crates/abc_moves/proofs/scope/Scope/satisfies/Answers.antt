use Rattle.std.proofs.Common.{[], ◌∙◌, ap}
use Rattle.abc_pred.specs.Meaning.{sat}
use Rattle.abc_pred.specs.Seeing.{other_of}
use Rattle.abc_pred.specs.Standing.{pred_of}
use Rattle.abc_term.specs.Substitution.{put_pred}
use Rattle.abc_moves.proofs.Scoped.{sat-scope}
use Rattle.abc_moves.proofs.scope.Scope.satisfies.Goals as goal

pub returns : goal.returns
returns c =
    let p = pred_of c.args.p.now in let own = c.args.own.now in let other = other_of c.args.other in
    c.sat.ensures ∙ sat-scope c.self.inside.bound c.self.inside.vars c.self.invariant p own other
    ∙ ap (λ bs. sat (put_pred bs p) own other []) c.self.view_is
