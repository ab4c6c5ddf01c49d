use Rattle.abc_network.specs.Shapes.{tree_rules}
use Rattle.abc_schedule.proofs.Own.{tree-own}
use Rattle.abc_schedule.proofs.Joined.{has-schedules}
use Rattle.abc_schedule.proofs.laws.tree_has_one_schedule.Goals as goal

pub returns : goal.returns
returns g c = λ agents nodes limit pick layout.
    has-schedules _ (tree_rules agents nodes limit pick) (tree-own agents nodes limit pick) layout
