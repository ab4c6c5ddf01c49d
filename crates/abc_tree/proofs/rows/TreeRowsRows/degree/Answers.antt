use Rattle.std.proofs.Common.{◌+◌, ◌≤◌, length, sym, ap, ◌∙◌, subst}
use Rattle.abc_network.specs.Trees.{tree_outs}
use Rattle.abc_tree.specs.Seats.{Seat}
use Rattle.abc_tree.proofs.Homed.{outs-short}
use Rattle.abc_tree.proofs.rows.TreeRowsRows.degree.Goals as goal

pub returns-clause-most : goal.returns-clause-most
returns-clause-most g c = λ sender came.
    let p = c.args.self.now.plan in
    let k = c.args.self.now.node in
    let agents = c.agents.ensures.number ∙ ap (λ (s : Seat). s.plan.agents) c.self.view_is in
    subst (λ n. length (tree_outs p k sender came) ≤ n + 3) (sym agents) (outs-short p k sender came)
