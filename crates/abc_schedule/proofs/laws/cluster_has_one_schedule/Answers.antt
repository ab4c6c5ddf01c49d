use Rattle.abc_network.specs.Shapes.{cluster_rules}
use Rattle.abc_schedule.proofs.Own.{cluster-own}
use Rattle.abc_schedule.proofs.Joined.{has-schedules}
use Rattle.abc_schedule.proofs.laws.cluster_has_one_schedule.Goals as goal

pub returns : goal.returns
returns g c = λ agents nodes limit pick layout.
    has-schedules _ (cluster_rules agents nodes limit pick) (cluster-own agents nodes limit pick layout.some_nodes) layout
