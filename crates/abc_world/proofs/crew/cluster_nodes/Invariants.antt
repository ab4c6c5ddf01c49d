use Rattle.abc_world.proofs.Made.{AreMade}
use Rattle.abc_world.proofs.crew.cluster_nodes.Given as goal

abbrev pub invariant-making : goal.invariant-making
invariant-making g l = AreMade tt l.plan l.nodes.items l.number
