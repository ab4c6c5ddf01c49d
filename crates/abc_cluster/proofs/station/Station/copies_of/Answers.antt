use Rattle.abc_cluster.proofs.Copying.{copies-after_one}
use Rattle.abc_cluster.proofs.station.Station.copies_of.Goals as goal

-- One agent's copy more is ready.
pub loop-agent-preserved : goal.loop-agent-preserved
loop-agent-preserved g c =
    let s = c.args.self.now in
    copies-after_one s.plan.nodes s.number c.args.sender c.args.clock c.loop-agent.agent c.args.stamped.now.packet
    c.loop-agent.ready.items c.push_copy.new.ready.items c.loop-agent.invariant c.in_ok-push_copy.ensures
