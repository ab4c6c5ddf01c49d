use Rattle.std.proofs.Common.{refl}
use Rattle.abc_shape.specs.Plans.{cluster_up, cluster_down, home_up, home_down, along, tree_up}
use Rattle.abc_shape.specs.Plans.{tree_down}
use Rattle.abc_network.proofs.laws.links_have_their_ends.Goals as goal

pub returns : goal.returns
returns c = record {
  from_agents = λ agents nodes k i low under. cluster_up i k refl low under refl refl refl;
  to_agents = λ agents nodes k i low under. cluster_down i k refl low under refl refl refl;
  to_homes = λ s agents nodes i other low. home_up i other low refl refl refl;
  from_homes = λ s agents nodes i other low. home_down i other low refl refl refl;
  to_successors = λ agents nodes k several low. along k refl several low refl refl refl;
  to_parents = λ agents nodes k some low. tree_up k refl some low refl refl refl;
  from_parents = λ agents nodes k some low. tree_down k refl some low refl refl refl;
}
