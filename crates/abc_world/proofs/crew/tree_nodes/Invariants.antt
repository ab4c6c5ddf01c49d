use Rattle.abc_network.specs.Stores.{blank_store}
use Rattle.abc_world.proofs.Made.{AreMade}
use Rattle.abc_world.proofs.crew.tree_nodes.Given as goal

abbrev pub invariant-making : goal.invariant-making
invariant-making g l = AreMade blank_store l.plan l.nodes.items l.number
