use Rattle.abc_network.specs.Stores.{StoreDoes}
use Rattle.abc_network.specs.Rings.{ring_kind}
use Rattle.abc_logs.proofs.GoingOn.{goes-on}
use Rattle.abc_logs.proofs.laws.ring_paths_go_on.Goals as goal

pub returns : goal.returns
returns g c = λ p k. goes-on (StoreDoes (ring_kind p) k)
