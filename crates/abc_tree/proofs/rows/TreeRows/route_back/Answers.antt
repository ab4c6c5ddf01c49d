use Rattle.std.proofs.Common.{◌<◌, arith}
use Rattle.abc_tree.proofs.Linked.{from-nowhere}
use Rattle.abc_tree.proofs.rows.TreeRows.route_back.Goals as goal

-- there is one route, and the link doesn't come back from where it leads
pub returns-then-not-comes_back : goal.returns-then-not-comes_back
returns-then-not-comes_back c = rw (← c.self.view_is) (λ other comes.
    from-nowhere c.self.inside.plan.now c.self.inside.node c.args.link c.args.agent c.route-route.result other c.route-route.ensures
    c.if-not-comes_back.ensures comes)

-- or it does
pub returns : goal.returns
returns c =
    let low : c.args.agent < c.self.inside.plan.now.agents = omega (arith, c.if-agent-agents.false, c.agents.ensures.number) in
    rw (← c.self.view_is) (low, c.route-route.ensures, c.if-not-comes_back.ensures)
