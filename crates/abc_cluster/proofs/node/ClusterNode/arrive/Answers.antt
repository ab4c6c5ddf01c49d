use Rattle.std.proofs.Common.{sym, subst}
use Rattle.abc_history.specs.Nodes.{SeenNode}
use Rattle.abc_cluster.specs.Stations.{HasLinksOf}
use Rattle.abc_cluster.proofs.node.ClusterNode.arrive.Goals as goal

-- The node is where it is seen to be,
pub arrive_at-requires-clause-from : goal.arrive_at-requires-clause-from
arrive_at-requires-clause-from g c =
    let leads : SeenNode (Unit {0}) g.row.L.Denot → Type 0 =
    λ x. HasLinksOf x.plan x.number (g.O.Outlet.has_link c.args.outlet.now) in
    subst leads (sym c.self.view_is) c.requires.from

-- and so is the actor that makes the micro-step.
pub returns-clause-arrives : goal.returns-clause-arrives
returns-clause-arrives g c = rw (← c.self.view_is) c.arrive_at.ensures.ok
