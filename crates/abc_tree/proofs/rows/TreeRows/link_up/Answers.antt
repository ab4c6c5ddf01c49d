use Rattle.std.proofs.Common.{◌+◌, ◌-◌, ◌*◌, ◌<◌, sym, ap, subst, arith}
use Rattle.abc_shape.specs.Plans.{actor_of, step_up}
use Rattle.abc_tree.specs.Seats.{Seat, LeavesFrom}
use Rattle.abc_tree.proofs.Linked.{link-up}
use Rattle.abc_tree.proofs.rows.TreeRows.link_up.Goals as goal

-- it leads to the parent
pub returns-clause-leaves : goal.returns-clause-leaves
returns-clause-leaves c =
    let p = c.self.inside.plan.now in
    let k = c.self.inside.node in
    let some : 0 < k = omega (arith, ap (λ (s : Seat). s.node) c.self.view_is) in
    rw (← c.self.view_is) (
    subst (λ n. LeavesFrom p k (2 * n + 2 * (k - 1))) (sym c.agents.ensures.number)
    (actor_of p (step_up k), link-up p k c.self.invariant.tree some c.self.invariant.node)
    )
