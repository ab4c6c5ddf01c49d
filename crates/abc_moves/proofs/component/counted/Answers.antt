use Rattle.std.proofs.Common.{◌∙◌, List, length, ap, sym}
use Rattle.abc_term.specs.declared.terms.Definition.{Definition}
use Rattle.abc_term.specs.Standing.{definitions_of}
use Rattle.abc_moves.specs.Trees.{parts}
use Rattle.abc_moves.proofs.Sounding.{outputs_fit}
use Rattle.abc_moves.proofs.component.counted.Goals as goal

pub outputs_of-requires : goal.outputs_of-requires
outputs_of-requires c =
    let at = c.new-at.result in let is = c.new-at.ensures in
    outputs_fit c.args.bodies.now.definitions.now (parts c.args.env.now c.args.interface.now c.args.tree.now) c.requires (definitions_of at.bodies.definitions.now) c.depth.result at.env.now
    (ap definitions_of is.definitions) (c.depth.ensures ∙ ap (λ (ds : List Definition). length (definitions_of ds)) (sym is.definitions)) is.env
