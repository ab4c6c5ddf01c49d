use Rattle.abc_network.specs.Shapes.{cluster_rules}
use Rattle.abc_network_laws.specs.ClusterFlows.{cluster_flow}
use Rattle.abc_network_laws.proofs.Settles.{settled}
use Rattle.abc_network_laws.proofs.Cluster.{cluster-relays}
use Rattle.abc_network_laws.proofs.ClusterFlow.{cluster-ways, cluster-carries, cluster-ends}
use Rattle.abc_network_laws.proofs.settling.cluster_settles.Goals as goal

pub returns : goal.returns
returns g c = λ agents nodes limit pick some bodies es w many run.
    settled _ (cluster_rules agents nodes limit pick) (cluster_flow agents nodes)
    (cluster-ways agents nodes limit pick some)
    (cluster-carries agents nodes limit pick some) (cluster-ends agents nodes limit pick some)
    (cluster-relays agents nodes) bodies many es w run
