use Rattle.std.proofs.Common.{◌≢◌, ◌+◌, ◌*◌, ◌<◌, sym, ◌∙◌, subst, arith}
use Rattle.std.specs.List.{All}
use Rattle.std.proofs.lemmas.List.Elements.{All-push}
use Rattle.abc_shape.specs.Plans.{home, successor}
use Rattle.abc_ring.specs.Seats.{LeavesFrom}
use Rattle.abc_ring.proofs.Onward.{leaves-along}
use Rattle.abc_ring.proofs.rows.RingRowsRows.outs.Goals.{then-successor-home+in_ok-push, else-successor-home}
use Rattle.abc_ring.proofs.rows.RingRowsRows.outs.Goals as goal

-- each link leads from the node
pub returns-clause-leave : goal.returns-clause-leave
returns-clause-leave g c =
    let p = c.self.inside.plan.now in
    let k = c.self.inside.node in
    let leaves = LeavesFrom p k in
    rw (← c.self.view_is) (
    elim c.if-successor-home.branch [
      | then-successor-home+in_ok-push w ↦ (
          let differ : successor p k ≢ home p c.args.sender = λ same.
          w.if-successor-home.true (c.successor.ensures.next ∙ same ∙ sym c.home.ensures.home) in
          let some : 0 < p.nodes = omega (arith, w.agents.ensures.limits.some_nodes) in
          let last : leaves (2 * w.agents.result + k) = subst (λ n. leaves (2 * n + k)) (sym w.agents.ensures.number)
          (leaves-along p k c.args.sender c.self.invariant.ring some c.self.invariant.node differ) in
          subst (All leaves) (sym (w.links-is ∙ w.in_ok-push.ensures.ok))
          (All-push leaves c.in_ok-links.links (2 * w.agents.result + k) c.in_ok-links.ensures.leave last))
      | else-successor-home w ↦ subst (All leaves) (sym w.links-is) c.in_ok-links.ensures.leave
    ]
    )
