use Rattle.std.proofs.Common.{ℕ, ◌<◌, subst, sym}
use Rattle.abc_moves.specs.Arounds.{definitions_around}
use Rattle.abc_moves.specs.Labels.{label_of}
use Rattle.abc_moves.specs.Trees.{process_in}
use Rattle.abc_moves.specs.Walks.{ins_at}
use Rattle.abc_moves.proofs.Meant.{meant-taken}
use Rattle.abc_moves.proofs.component.heard_at.Goals as goal

pub hear_at-requires-clause-meant : goal.hear_at-requires-clause-meant
hear_at-requires-clause-meant c =
    let at = c.args.at.now in let defs = definitions_around at in let l = label_of c.args.label.now in let P = process_in c.args.tree.now in
    meant-taken c.depth.result defs l at.env.now at.interface.now P c.args.place
    (subst (λ (n : ℕ). c.args.place < ins_at n defs l at.env.now at.interface.now P) (sym c.depth.ensures) c.requires.among)
