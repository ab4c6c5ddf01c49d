use Rattle.abc_world.proofs.Fronted.{LeastOf}
use Rattle.abc_world.proofs.network.Network.least_front.Given as goal

abbrev pub invariant-comparing : goal.invariant-comparing
invariant-comparing g l = LeastOf l.self-inside.agents.items l.i l.least
