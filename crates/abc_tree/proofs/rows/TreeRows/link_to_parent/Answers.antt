use Rattle.std.proofs.Common.{[]}
use Rattle.std.proofs.lemmas.List.Elements.{All-nil, All-cons}
use Rattle.abc_tree.specs.Seats.{LeavesFrom}
use Rattle.abc_tree.proofs.rows.TreeRows.link_to_parent.Goals as goal

-- it leads from the node
pub returns-clause-leave : goal.returns-clause-leave
returns-clause-leave c =
    let leaves = LeavesFrom c.args.self.now.plan c.args.self.now.node in
    All-cons leaves c.link_up-up.result [] c.link_up-up.ensures.leaves (All-nil leaves)
