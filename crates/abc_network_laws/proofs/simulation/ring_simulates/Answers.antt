use Rattle.abc_shape.specs.declared.shape.Shape.TheVariants.{Ring}
use Rattle.abc_shape.specs.Plans.{layout_of}
use Rattle.abc_network.specs.Shapes.{ring_rules}
use Rattle.abc_network_laws.specs.RingFlows.{ring}
use Rattle.abc_network_laws.proofs.Simulates.{simulated}
use Rattle.abc_network_laws.proofs.StoreLaws.{store-relays, blank-holds}
use Rattle.abc_network_laws.proofs.RingRows.{ring-laws}
use Rattle.abc_network_laws.proofs.simulation.ring_simulates.Goals as goal

pub returns : goal.returns
returns g c = λ agents nodes limit pick some bodies es w run.
    let laws = ring-laws agents nodes some in
    simulated _ (ring_rules agents nodes limit pick) bodies
    (store-relays (ring agents nodes) (layout_of Ring agents nodes) laws)
    (blank-holds (ring agents nodes)) es w run
