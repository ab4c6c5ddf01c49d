use Rattle.std.proofs.Common.{◌∙◌}
use Rattle.abc_pred.specs.Standing.{pred_of}
use Rattle.abc_moves.proofs.Reading.{sat_inside}
use Rattle.abc_moves.proofs.wanted.Heard.is_wanted.Goals as goal

pub returns : goal.returns
returns c =
    let m = c.args.self.now in
    c.sat.ensures ∙ sat_inside m.xs.now m.values.now m.scope.now (pred_of c.args.p.now) c.args.own.now c.args.shown.now
