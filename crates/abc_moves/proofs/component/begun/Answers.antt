use Rattle.std.proofs.lemmas.Result.{IfOk-weaker}
use Rattle.abc_moves.specs.Lives.{component_in}
use Rattle.abc_moves.proofs.Sounding.{found, begins_sound, starts_as}
use Rattle.abc_moves.proofs.component.begun.Goals as goal

pub started-requires-clause-sound : goal.started-requires-clause-sound
started-requires-clause-sound c =
    let C = c.index-as_slice-component in let p = c.args.program.now in
    begins_sound p c.args.component C.result c.requires.checked (found p.components c.as_slice.result.now c.args.component C.result c.requires.exists c.as_slice.ensures C.is)

pub returns-clause-component : goal.returns-clause-component
returns-clause-component c =
    let C = c.index-as_slice-component in let p = c.args.program.now in
    IfOk-weaker c.started.result _ _
    (λ l b. starts_as p c.args.component C.result (component_in l) (found p.components c.as_slice.result.now c.args.component C.result c.requires.exists c.as_slice.ensures C.is) b)
    c.started.ensures.component
