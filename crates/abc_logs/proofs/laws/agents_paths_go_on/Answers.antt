use Rattle.abc_network.specs.Agents.{AgentDoes}
use Rattle.abc_logs.proofs.GoingOn.{goes-on}
use Rattle.abc_logs.proofs.laws.agents_paths_go_on.Goals as goal

pub returns : goal.returns
returns g c = λ pick i way. goes-on (AgentDoes _ pick way i)
