use Rattle.std.proofs.Common.{◌≡◌}
use Rattle.abc_network.specs.Nodes.{copies_from}
use Rattle.abc_logs.specs.MicroSteps.{stamped_with}
use Rattle.abc_cluster.proofs.station.Station.copies_of.Given as goal

-- The copies for the agents so far are ready.
abbrev pub invariant-loop-agent : goal.invariant-loop-agent
invariant-loop-agent g l =
    l.ready.items ≡ stamped_with l.clock (copies_from l.self.plan.nodes l.self.number l.sender 0 l.agent l.stamped.packet)
