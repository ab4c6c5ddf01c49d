use Rattle.std.proofs.Common.{ℕ, ◌+◌, ◌*◌, refl}
use Rattle.abc_network.specs.Shapes.{cluster_rules}
use Rattle.abc_network_laws.specs.ClusterFlows.{cluster_flow, cluster_charge}
use Rattle.abc_network_laws.proofs.Events.{bounded}
use Rattle.abc_network_laws.proofs.Cluster.{cluster-relays}
use Rattle.abc_network_laws.proofs.ClusterFlow.{cluster-ways, cluster-carries, cluster-ends}
use Rattle.abc_network_laws.proofs.ClusterPays.{cluster-pays}
use Rattle.abc_network_laws.proofs.bounds.cluster_is_bounded.Goals as goal

pub returns : goal.returns
returns g c = λ agents nodes limit pick some bodies es w many run.
    let worth : ℕ = 15 + 2 * agents + 2 * nodes in
    bounded _ (cluster_rules agents nodes limit pick) (cluster_flow agents nodes)
    (cluster-ways agents nodes limit pick some)
    (cluster-carries agents nodes limit pick some) (cluster-ends agents nodes limit pick some)
    (cluster-relays agents nodes) bodies
    (15 + 2 * agents + 2 * nodes) (cluster_charge (15 + 2 * agents + 2 * nodes) agents)
    (cluster-pays _ agents nodes limit pick
    (15 + 2 * agents + 2 * nodes) refl some) many refl es w run
