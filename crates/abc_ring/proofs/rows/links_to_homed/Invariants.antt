use Rattle.std.proofs.Common.{◌≡◌, ◌-◌, ◌++◌}
use Rattle.std.specs.List.{All}
use Rattle.abc_network.specs.Rings.{homed_from}
use Rattle.abc_ring.specs.Seats.{LeavesFrom}
use Rattle.abc_ring.proofs.rows.links_to_homed.Given as goal

abbrev pub invariant-looking : goal.invariant-looking
invariant-looking l = record {
  links : l.links ++ homed_from l.plan l.node l.sender l.agent (l.agents - l.agent) ≡ homed_from l.plan l.node l.sender 0 l.agents;
  leave : All (LeavesFrom l.plan l.node) l.links;
}
