use Rattle.std.proofs.Common.{◌∙◌, sym}
use Rattle.abc_moves.proofs.Reading.{inside_listed, inside_unlisted}
use Rattle.abc_moves.proofs.wanted.HeardVariables.value.Goals as goal

pub returns-in-Some : goal.returns-in-Some
returns-in-Some c =
    let m = c.args.self.now in let e = c.in-Some.ensures in
    e.1 ∙ sym (inside_listed m.xs.now m.values.now m.scope.now c.args.x e.0)

pub returns-in-None : goal.returns-in-None
returns-in-None c =
    let m = c.args.self.now in
    c.get.ensures ∙ sym (inside_unlisted m.xs.now m.values.now m.scope.now c.args.x c.in-None.ensures)
