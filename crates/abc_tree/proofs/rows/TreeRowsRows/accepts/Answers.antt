use Rattle.std.proofs.Common.{◌<◌, arith}
use Rattle.abc_tree.proofs.Asked.{accepts-tested}
use Rattle.abc_tree.proofs.rows.TreeRowsRows.accepts.Goals as goal

-- the link ends at the node
pub returns-then-sender-agents : goal.returns-then-sender-agents
returns-then-sender-agents g c =
    let p = c.self.inside.plan.now in
    let low : c.args.sender < p.agents = omega (arith, c.if-sender-agents.true, c.agents.ensures.number) in
    rw (← c.self.view_is) (accepts-tested p c.self.inside.node c.args.link c.args.sender c.ends_at.result low c.ends_at.ensures)
