use Rattle.abc_network.specs.Stores.{StoreDoes}
use Rattle.abc_network.specs.Trees.{tree_kind}
use Rattle.abc_logs.proofs.GoingOn.{goes-on}
use Rattle.abc_logs.proofs.laws.tree_paths_go_on.Goals as goal

pub returns : goal.returns
returns g c = λ p k. goes-on (StoreDoes (tree_kind p) k)
