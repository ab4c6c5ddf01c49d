use Rattle.std.proofs.Common.{◌<◌, sym, ap, ◌∙◌, subst, arith}
use Rattle.abc_shape.specs.Routes.{IsRoute}
use Rattle.abc_tree.specs.Seats.{Seat}
use Rattle.abc_tree.proofs.Linked.{down-nowhere, goes-down}
use Rattle.abc_tree.proofs.rows.TreeRows.route_down.Goals.{then-agent-agents-via-then-agent-agents}
use Rattle.abc_tree.proofs.rows.TreeRows.route_down.Goals.{then-agent-agents-via-else-agent-agents+then-not-is_from_parent}
use Rattle.abc_tree.proofs.rows.TreeRows.route_down.Goals as goal

-- the agent is not known, or the link comes from elsewhere
pub returns-then-agent-agents : goal.returns-then-agent-agents
returns-then-agent-agents c = λ route goes.
    let agents = ap (λ (s : Seat). s.plan.agents) c.self.view_is in
    let low = goes.0 in
    elim c.then-agent-agents.branch [
      | then-agent-agents-via-then-agent-agents w ↦ absurd (omega (arith, w.if-agent-agents.true, c.agents.ensures.number))
      | then-agent-agents-via-else-agent-agents+then-not-is_from_parent w ↦ w.if-not-is_from_parent.ensures goes.1
    ]

-- the one route leads to the parent
pub returns-then-route-link_up : goal.returns-then-route-link_up
returns-then-route-link_up c =
    let p = c.args.self.now.plan in
    let k = c.args.self.now.node in
    let node = ap (λ (s : Seat). s.node) c.self.view_is in
    let nodes = ap (λ (s : Seat). s.plan.nodes) c.self.view_is in
    let parent = c.if-not-is_from_parent.ensures.0 in
    let some : 0 < k = omega arith in
    let there : k < p.nodes = omega arith in
    let tree = ap (λ (s : Seat). s.plan.shape) (sym c.self.view_is) ∙ c.self.invariant.tree in
    let is = subst (λ (s : Seat). IsRoute s.plan s.node c.args.agent c.route-route.result) c.self.view_is c.route-route.ensures in
    λ other goes. down-nowhere p k c.args.link c.args.agent c.route-route.result other tree some there is
    (c.if-route-link_up.true ∙ c.link_up.ensures.number) goes

-- or not
pub returns : goal.returns
returns c =
    let p = c.args.self.now.plan in
    let k = c.args.self.now.node in
    let agents = ap (λ (s : Seat). s.plan.agents) c.self.view_is in
    let low : c.args.agent < p.agents = omega (arith, c.if-agent-agents.false, c.agents.ensures.number) in
    let tree = ap (λ (s : Seat). s.plan.shape) (sym c.self.view_is) ∙ c.self.invariant.tree in
    let is = subst (λ (s : Seat). IsRoute s.plan s.node c.args.agent c.route-route.result) c.self.view_is c.route-route.ensures in
    goes-down p k c.args.link c.args.agent c.route-route.result c.link_up.result tree low c.if-not-is_from_parent.ensures is
    c.link_up.ensures.number c.if-route-link_up.false
