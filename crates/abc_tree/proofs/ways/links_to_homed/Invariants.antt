use Rattle.std.proofs.Common.{◌≡◌, ◌-◌, ◌++◌}
use Rattle.std.specs.List.{All}
use Rattle.abc_network.specs.Trees.{agents_of}
use Rattle.abc_tree.specs.Seats.{LeavesFrom}
use Rattle.abc_tree.proofs.ways.links_to_homed.Given as goal

abbrev pub invariant-looking : goal.invariant-looking
invariant-looking l = record {
  links : l.links ++ agents_of l.plan l.node l.came l.agent (l.agents - l.agent) ≡ agents_of l.plan l.node l.came 0 l.agents;
  leave : All (LeavesFrom l.plan l.node) l.links;
}
