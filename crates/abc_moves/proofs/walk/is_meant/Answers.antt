use Rattle.std.proofs.Common.{[], ◌∙◌, ap}
use Rattle.abc_pred.specs.Maps.{shown}
use Rattle.abc_pred.specs.Meaning.{sat}
use Rattle.abc_pred.specs.Standing.{pred_of}
use Rattle.abc_moves.proofs.Reading.{pred_nothing}
use Rattle.abc_moves.proofs.walk.is_meant.Goals as goal

pub returns : goal.returns
returns c =
    let at = c.args.at.now in let other = shown at.env.now at.interface.now in
    c.satisfies.ensures
    ∙ ap (λ p. sat p at.nobody other []) (pred_nothing at.unbound (pred_of c.args.label.now.pred) at.binds_nothing)
    ∙ ap (λ own. sat (pred_of c.args.label.now.pred) own other []) at.has_nothing
