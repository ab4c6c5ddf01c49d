use Rattle.std.proofs.Common.{◌≡◌, ◌+◌, ◌-◌, ◌*◌, ◌<◌, [], sym, subst, arith}
use Rattle.std.proofs.lemmas.List.Elements.{All-nil, All-cons}
use Rattle.abc_shape.specs.Plans.{step_up}
use Rattle.abc_tree.specs.Seats.{LeavesFrom}
use Rattle.abc_tree.proofs.Linked.{leaves-child}
use Rattle.abc_tree.proofs.rows.TreeRows.link_to_child.Goals as goal

-- it leads from the node
pub returns-clause-leave : goal.returns-clause-leave
returns-clause-leave c =
    let p = c.self.inside.plan.now in
    let k = c.self.inside.node in
    let child = 2 * k + c.args.place in
    let leaves = LeavesFrom p k in
    let first = c.requires.first in
    let second = c.requires.second in
    let some : 0 < child = omega arith in
    let there : child < p.nodes = omega (arith, c.if-child-nodes.false, c.nodes-nodes.ensures.number) in
    let over : step_up child ≡ k = omega arith in
    let leads = subst (λ n. leaves (2 * n + 2 * (child - 1) + 1)) (sym c.agents.ensures.number)
    (leaves-child p k child c.self.invariant.tree some there over) in
    rw (← c.self.view_is) (All-cons leaves (2 * c.agents.result + 2 * (child - 1) + 1) [] leads (All-nil leaves))
