use Rattle.abc_ring.proofs.Homed.{leaves-homed}
use Rattle.abc_ring.proofs.rows.RingRowsRows.handling.Goals as goal

-- the reply leaves on the link to the agent, which is homed here
pub returns-else-not-asks_here-clause-leaves : goal.returns-else-not-asks_here-clause-leaves
returns-else-not-asks_here-clause-leaves g c =
    let asks = c.if-not-asks_here.ensures.asks in
    leaves-homed c.args.self.now.plan c.args.self.now.node c.in-Request.agent c.asks_here.ensures.ring asks.0 asks.1
