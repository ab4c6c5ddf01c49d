use Rattle.std.proofs.Common.{◌≡◌}
use Rattle.abc_packet.specs.Outlets.{SameLinks}
use Rattle.abc_agent.specs.Settlings.{count_left}
use Rattle.abc_agent.proofs.Taking.{StillTakes}
use Rattle.abc_agent.proofs.agent.Agent.take_all.Given as goal

abbrev pub invariant-taking : goal.invariant-taking
invariant-taking g l = record {
  takes : StillTakes g.B.Body.meaning l.fn.self l.self (g.O.Outlet.lists l.fn.outlet) (g.O.Outlet.lists l.outlet);
  links : SameLinks (g.O.Outlet.has_link l.fn.outlet) (g.O.Outlet.has_link l.outlet);
  rest : g.O.Outlet.rest l.outlet ≡ g.O.Outlet.rest l.fn.outlet;
}

abbrev pub decreases-taking : goal.decreases-taking
decreases-taking g l = count_left l.self
