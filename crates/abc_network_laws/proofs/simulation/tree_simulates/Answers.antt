use Rattle.abc_shape.specs.declared.shape.Shape.TheVariants.{Tree}
use Rattle.abc_shape.specs.Plans.{layout_of}
use Rattle.abc_network.specs.Shapes.{tree_rules}
use Rattle.abc_network_laws.specs.TreeFlows.{tree}
use Rattle.abc_network_laws.proofs.Simulates.{simulated}
use Rattle.abc_network_laws.proofs.StoreLaws.{store-relays, blank-holds}
use Rattle.abc_network_laws.proofs.TreeRows.{tree-laws}
use Rattle.abc_network_laws.proofs.simulation.tree_simulates.Goals as goal

pub returns : goal.returns
returns g c = λ agents nodes limit pick some bodies es w run.
    let laws = tree-laws agents nodes some in
    simulated _ (tree_rules agents nodes limit pick) bodies
    (store-relays (tree agents nodes) (layout_of Tree agents nodes) laws)
    (blank-holds (tree agents nodes)) es w run
