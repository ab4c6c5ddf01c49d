use Rattle.abc_network.specs.Quiets.{AgentRests}
use Rattle.abc_world.proofs.Quieting.{FirstAre}
use Rattle.abc_world.proofs.quiet.agents_rest.Given as goal

abbrev pub invariant-asking : goal.invariant-asking
invariant-asking g l = FirstAre (λ a. AgentRests g.B.Body.meaning a.actor.state) l.agents l.i
