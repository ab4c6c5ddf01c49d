use Rattle.abc_network.specs.Shapes.{cluster_rules, ring_rules, tree_rules}
use Rattle.abc_network_runs.proofs.TurnSteps.{no-turn-waits}
use Rattle.abc_network_runs.proofs.turning.turns_wait_for_nobody.Goals as goal

pub returns : goal.returns
returns g c = record {
  cluster = λ agents nodes limit pick. no-turn-waits _ (cluster_rules agents nodes limit pick);
  ring = λ agents nodes limit pick. no-turn-waits _ (ring_rules agents nodes limit pick);
  tree = λ agents nodes limit pick. no-turn-waits _ (tree_rules agents nodes limit pick);
}
