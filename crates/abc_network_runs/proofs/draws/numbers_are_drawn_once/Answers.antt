use Rattle.abc_network.specs.Shapes.{cluster_rules, ring_rules, tree_rules}
use Rattle.abc_network_runs.proofs.DrawnNumbers.{drawn-once}
use Rattle.abc_network_runs.proofs.draws.numbers_are_drawn_once.Goals as goal

pub returns : goal.returns
returns g c = record {
  cluster = λ agents nodes limit pick. drawn-once _ (cluster_rules agents nodes limit pick);
  ring = λ agents nodes limit pick. drawn-once _ (ring_rules agents nodes limit pick);
  tree = λ agents nodes limit pick. drawn-once _ (tree_rules agents nodes limit pick);
}
