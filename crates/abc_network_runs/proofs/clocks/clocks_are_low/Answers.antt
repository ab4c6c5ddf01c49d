use Rattle.abc_network.specs.Shapes.{cluster_rules, ring_rules, tree_rules}
use Rattle.abc_network_runs.proofs.ClockBounds.{clocks-low}
use Rattle.abc_network_runs.proofs.clocks.clocks_are_low.Goals as goal

pub returns : goal.returns
returns g c = record {
  cluster = λ agents nodes limit pick.
      clocks-low _ (cluster_rules agents nodes limit pick)
      (c.clocks_count_events.ensures.cluster agents nodes limit pick)
      (λ plan. c.cluster_is_bounded.ensures agents nodes limit pick plan.some_nodes);
  ring = λ agents nodes limit pick.
      clocks-low _ (ring_rules agents nodes limit pick)
      (c.clocks_count_events.ensures.ring agents nodes limit pick)
      (λ plan. c.ring_is_bounded.ensures agents nodes limit pick plan.some_nodes);
  tree = λ agents nodes limit pick.
      clocks-low _ (tree_rules agents nodes limit pick)
      (c.clocks_count_events.ensures.tree agents nodes limit pick)
      (λ plan. c.tree_is_bounded.ensures agents nodes limit pick plan.some_nodes plan.most_nodes);
}
