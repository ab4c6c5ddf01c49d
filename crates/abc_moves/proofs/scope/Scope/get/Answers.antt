use Rattle.std.proofs.Common.{◌∙◌, ap}
use Rattle.abc_pred.specs.Maps.{look_up}
use Rattle.abc_moves.proofs.Scoped.{look_up_scope}
use Rattle.abc_moves.proofs.scope.Scope.get.Goals as goal

pub returns : goal.returns
returns c =
    c.get.ensures ∙ look_up_scope c.self.inside.bound c.self.inside.vars c.self.invariant c.args.x ∙ ap (λ bs. look_up bs c.args.x) c.self.view_is
