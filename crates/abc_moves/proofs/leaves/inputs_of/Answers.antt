use Rattle.std.proofs.Common.{◌∙◌, sym}
use Rattle.abc_moves.specs.Arounds.{definitions_around}
use Rattle.abc_moves.specs.Labels.{label_of}
use Rattle.abc_moves.specs.Trees.{process_in}
use Rattle.abc_moves.proofs.Meant.{ins-not_meant}
use Rattle.abc_moves.proofs.leaves.inputs_of.Goals as goal

pub returns-else-is_meant : goal.returns-else-is_meant
returns-else-is_meant c =
    let at = c.args.at.now in
    sym (ins-not_meant (label_of c.args.label.now) at.env.now at.interface.now (sym c.is_meant.ensures ∙ c.if-is_meant.false) (definitions_around at) c.args.depth (process_in c.args.tree.now))
