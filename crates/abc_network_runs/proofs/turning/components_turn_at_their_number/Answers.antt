use Rattle.abc_network.specs.Shapes.{cluster_rules, ring_rules, tree_rules}
use Rattle.abc_network_runs.proofs.ComponentTurns.{turns-where-granted}
use Rattle.abc_network_runs.proofs.turning.components_turn_at_their_number.Goals as goal

pub returns : goal.returns
returns c = record {
  cluster = λ agents nodes limit pick. turns-where-granted (cluster_rules agents nodes limit pick);
  ring = λ agents nodes limit pick. turns-where-granted (ring_rules agents nodes limit pick);
  tree = λ agents nodes limit pick. turns-where-granted (tree_rules agents nodes limit pick);
}
