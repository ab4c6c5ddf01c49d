use Rattle.std.proofs.Common.{sym, subst}
use Rattle.abc_shape.specs.Plans.{actor_of}
use Rattle.abc_network.specs.Stores.{Store}
use Rattle.abc_history.specs.Nodes.{SeenNode}
use Rattle.abc_history.specs.Outs.{HasLinksFrom}
use Rattle.abc_tree.proofs.node.TreeNode.arrive.Goals as goal

-- the outlet has the links that lead from the node
pub arrive-requires-clause-leave : goal.arrive-requires-clause-leave
arrive-requires-clause-leave g c =
    let links : SeenNode (Store g.row.L.Denot) g.row.L.Denot → Type 0 =
    λ n. HasLinksFrom n.plan (actor_of n.plan n.number) (g.O.Outlet.has_link c.args.outlet.now) in
    let has = subst links (sym c.self.view_is) c.requires.links in
    λ link leaves. has link leaves.0 leaves.1

-- the micro-step is that of the node within
pub returns-clause-made : goal.returns-clause-made
returns-clause-made g c = rw (← c.self.view_is) c.arrive.ensures.made
