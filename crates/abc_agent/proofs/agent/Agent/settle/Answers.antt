use Rattle.abc_agent.proofs.Leading.{has_links_again}
use Rattle.abc_agent.proofs.Taking.{settles_by, rests_then}
use Rattle.abc_agent.proofs.agent.Agent.settle.Goals as goal

-- the agent and the outlet's links are still those
pub ask-requires-clause-links : goal.ask-requires-clause-links
ask-requires-clause-links g c κs within =
    has_links_again c.args.self.now.plan c.take_all.new.self.plan c.args.self.now.number c.take_all.new.self.number
    (g.O.Outlet.has_link c.args.outlet.now) (g.O.Outlet.has_link c.take_all.new.outlet)
    c.take_all.ensures.member.plan c.take_all.ensures.member.number c.take_all.ensures.links c.requires.links

-- the numbers that were taken and turned, and the request
pub returns-clause-goes_on : goal.returns-clause-goes_on
returns-clause-goes_on g c =
    settles_by g.B.Body.meaning c.args.self.now c.take_all.new.self c.ask.new.self (g.O.Outlet.lists c.args.outlet.now)
    (g.O.Outlet.lists c.take_all.new.outlet) (g.O.Outlet.lists c.ask.new.outlet) c.in_ok-ask.field-0
    c.take_all.ensures.member c.take_all.ensures.goes_on c.in_ok-ask.ensures.made c.in_ok-ask.ensures.stays

-- after which nothing is possible
pub returns-clause-ok : goal.returns-clause-ok
returns-clause-ok g c =
    let none = c.in_ok-take_all.ensures.ok in
    rests_then g.B.Body.meaning c.take_all.new.self c.ask.new.self (g.O.Outlet.lists c.take_all.new.outlet)
    (g.O.Outlet.lists c.ask.new.outlet) c.in_ok-ask.field-0 c.in_ok-ask.ensures.made c.in_ok-ask.ensures.stays
    none.0 none.1
