use Rattle.abc_network.specs.Nodes.{ClusterDoes}
use Rattle.abc_logs.proofs.GoingOn.{goes-on}
use Rattle.abc_logs.proofs.laws.cluster_paths_go_on.Goals as goal

pub returns : goal.returns
returns g c = λ agents nodes k. goes-on (ClusterDoes agents nodes k)
