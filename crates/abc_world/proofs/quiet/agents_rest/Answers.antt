use Rattle.std.proofs.Common.{subst}
use Rattle.abc_network.specs.Quiets.{AgentRests}
use Rattle.abc_agent.specs.Members.{Member}
use Rattle.abc_world.specs.Teams.{actor_in}
use Rattle.abc_world.proofs.Networked.{map-there}
use Rattle.abc_world.proofs.Quieting.{first-none, first-next, first-all, found-there, only-there}
use Rattle.abc_world.proofs.quiet.agents_rest.Goals as goal

pub asking-init : goal.asking-init
asking-init g c = first-none _ c.args.agents.now

pub asking-preserved : goal.asking-preserved
asking-preserved g c =
    let Rests : Member g.row.B.Denot g.row.B-Label.Denot → Type 0 = λ a. AgentRests g.B.Body.meaning a.actor.state in
    first-next Rests c.args.agents.now c.asking.i c.asking.invariant
    (λ x stands. subst Rests
    (only-there c.args.agents.now c.asking.i x c.index-agents-i.result c.asking-test.true c.index-agents-i.is stands)
    c.if-not-agent_rests.ensures)

-- one doesn't rest
pub returns-then-not-agent_rests : goal.returns-then-not-agent_rests
returns-then-not-agent_rests g c =
    let found = found-there c.args.agents.now c.asking.i c.index-agents-i.result c.asking-test.true c.index-agents-i.is in
    λ all. c.if-not-agent_rests.ensures (all c.asking.i c.index-agents-i.result.actor
    (map-there actor_in c.args.agents.now c.asking.i c.index-agents-i.result found))

pub returns : goal.returns
returns g c =
    first-all (λ a. AgentRests g.B.Body.meaning a.state) actor_in c.args.agents.now c.asking.i c.asking-test.false
    c.asking.invariant
