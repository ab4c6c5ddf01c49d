use Rattle.abc_network.specs.Shapes.{ring_rules}
use Rattle.abc_schedule.proofs.Own.{ring-own}
use Rattle.abc_schedule.proofs.Joined.{has-schedules}
use Rattle.abc_schedule.proofs.laws.ring_has_one_schedule.Goals as goal

pub returns : goal.returns
returns g c = λ agents nodes limit pick layout.
    has-schedules _ (ring_rules agents nodes limit pick) (ring-own agents nodes limit pick layout.some_nodes) layout
