use Rattle.std.proofs.Common.{◌++◌, subst}
use Rattle.std.specs.Prelude.{option_to_list}
use Rattle.std.specs.List.{All}
use Rattle.std.proofs.lemmas.List.Elements.{All-append, All-same}
use Rattle.abc_tree.specs.Seats.{Seat, LeavesFrom}
use Rattle.abc_tree.proofs.rows.TreeRowsRows.outs.Goals as goal

-- each link leads from the node
pub returns-clause-leave : goal.returns-clause-leave
returns-clause-leave g c =
    let leaves = LeavesFrom c.args.self.now.plan c.args.self.now.node in
    let parent = option_to_list c.link_to_parent-parent.result in
    let first = option_to_list c.link_to_child-first.result in
    let second = option_to_list c.link_to_child-second.result in
    let homed = c.in_ok-links.links in
    let to_homed = subst (λ (s : Seat). All (LeavesFrom s.plan s.node) homed) c.self.view_is c.in_ok-links.ensures.leave in
    let with_parent = All-same leaves c.add.new.links (homed ++ parent) c.in_ok-add.ensures
    (All-append leaves homed parent to_homed c.link_to_parent-parent.ensures.leave) in
    let with_first = All-same leaves c.add-2.new.links (c.add.new.links ++ first) c.in_ok-add-2.ensures
    (All-append leaves c.add.new.links first with_parent c.link_to_child-first.ensures.leave) in
    All-same leaves c.add-3.new.links (c.add-2.new.links ++ second) c.in_ok-add-3.ensures
    (All-append leaves c.add-2.new.links second with_first c.link_to_child-second.ensures.leave)
