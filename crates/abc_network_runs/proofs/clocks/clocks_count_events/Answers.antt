use Rattle.abc_network.specs.Shapes.{cluster_rules, ring_rules, tree_rules}
use Rattle.abc_network_runs.proofs.ClockBounds.{clocks-count}
use Rattle.abc_network_runs.proofs.clocks.clocks_count_events.Goals as goal

pub returns : goal.returns
returns g c = record {
  cluster = λ agents nodes limit pick. clocks-count _ (cluster_rules agents nodes limit pick);
  ring = λ agents nodes limit pick. clocks-count _ (ring_rules agents nodes limit pick);
  tree = λ agents nodes limit pick. clocks-count _ (tree_rules agents nodes limit pick);
}
