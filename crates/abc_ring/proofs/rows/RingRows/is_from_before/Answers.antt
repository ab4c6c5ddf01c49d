use Rattle.std.proofs.Common.{◌*◌, arith}
use Rattle.abc_ring.proofs.Onward.{before-by_test}
use Rattle.abc_ring.proofs.rows.RingRows.is_from_before.Goals as goal

-- the node before is the one whose successor is this one
pub returns-then-before-nodes : goal.returns-then-before-nodes
returns-then-before-nodes c =
    rw (← c.self.view_is) (
    before-by_test c.self.inside.plan.now c.self.inside.node c.args.link (2 * c.agents-past.result) c.successor.result
    (omega (arith, c.agents-past.ensures.number)) c.if-link-past.false
    (omega (arith, c.if-before-nodes.true, c.nodes.ensures.number)) c.successor.ensures.next
    )
