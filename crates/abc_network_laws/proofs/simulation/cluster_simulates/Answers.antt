use Rattle.abc_network.specs.Shapes.{cluster_rules}
use Rattle.abc_network_laws.proofs.Simulates.{simulated}
use Rattle.abc_network_laws.proofs.Cluster.{cluster-relays}
use Rattle.abc_network_laws.proofs.simulation.cluster_simulates.Goals as goal

pub returns : goal.returns
returns g c = λ agents nodes limit pick bodies es w run.
    simulated _ (cluster_rules agents nodes limit pick) bodies (cluster-relays agents nodes)
    (λ n sender content has. absurd has) es w run
