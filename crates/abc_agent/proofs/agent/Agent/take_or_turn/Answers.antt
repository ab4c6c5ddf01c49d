use Rattle.std.proofs.Common.{rules}
use Rattle.abc_agent.proofs.Taking.{turned}
use Rattle.abc_agent.proofs.agent.Agent.take_or_turn.Goals as goal

pub returns-then-can_turn-clause-made : goal.returns-then-can_turn-clause-made
returns-then-can_turn-clause-made g c =
    turned g.B.Body.meaning c.args.self.now c.turn.new.self (g.O.Outlet.lists c.args.outlet.now)
    (g.O.Outlet.lists c.turn.new.outlet) (search rules)
