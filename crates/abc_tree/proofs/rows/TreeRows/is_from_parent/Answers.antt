use Rattle.std.proofs.Common.{◌<◌, sym, ap, ◌∙◌, arith}
use Rattle.abc_tree.specs.Seats.{Seat}
use Rattle.abc_tree.proofs.Linked.{parent-tested}
use Rattle.abc_tree.proofs.rows.TreeRows.is_from_parent.Goals as goal

-- the link from the parent has the number after that of the link to it
pub returns-then-self-gt0 : goal.returns-then-self-gt0
returns-then-self-gt0 c =
    let p = c.args.self.now.plan in
    let k = c.args.self.now.node in
    let node = ap (λ (s : Seat). s.node) c.self.view_is in
    let nodes = ap (λ (s : Seat). s.plan.nodes) c.self.view_is in
    let some : 0 < k = omega arith in
    let there : k < p.nodes = omega arith in
    parent-tested p k c.args.link c.link_up.result (ap (λ (s : Seat). s.plan.shape) (sym c.self.view_is) ∙ c.self.invariant.tree)
    some there c.link_up.ensures.number
