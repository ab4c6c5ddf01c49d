use Rattle.std.proofs.Common.{◌∙◌, List, length, ap, sym}
use Rattle.abc_term.specs.declared.terms.Definition.{Definition}
use Rattle.abc_term.specs.Standing.{definitions_of}
use Rattle.abc_moves.specs.Labels.{label_of}
use Rattle.abc_moves.specs.Lives.{component_in}
use Rattle.abc_moves.proofs.Sounding.{inputs_fit, inputs_few}
use Rattle.abc_moves.proofs.live.Live.inputs.Goals as goal

pub inputs_of-requires : goal.inputs_of-requires
inputs_of-requires c =
    let self = c.args.self.now in let at = c.new-at.result in let is = c.new-at.ensures in
    inputs_fit self.definitions.now (component_in self) self.sound (definitions_of at.bodies.definitions.now) c.depth.result at.env.now
    (ap definitions_of (is.definitions ∙ c.bodies_of-bodies.ensures))
    (c.depth.ensures ∙ ap (λ (ds : List Definition). length (definitions_of ds)) (sym is.definitions)) is.env (label_of c.args.label.now) at.interface.now is.interface

pub returns-clause-few : goal.returns-clause-few
returns-clause-few c =
    let self = c.args.self.now in let at = c.new-at.result in let is = c.new-at.ensures in
    inputs_few self.definitions.now (component_in self) self.sound (definitions_of at.bodies.definitions.now) c.depth.result at.env.now
    (ap definitions_of (is.definitions ∙ c.bodies_of-bodies.ensures))
    (c.depth.ensures ∙ ap (λ (ds : List Definition). length (definitions_of ds)) (sym is.definitions)) is.env (label_of c.args.label.now) at.interface.now is.interface
    c.inputs_of.result c.inputs_of.ensures
