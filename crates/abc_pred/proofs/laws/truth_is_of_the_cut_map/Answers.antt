use Rattle.abc_pred.proofs.Values.{truth_is_of_the_cut_map}
use Rattle.abc_pred.proofs.laws.truth_is_of_the_cut_map.Goals as goal

pub returns : goal.returns
returns c = truth_is_of_the_cut_map
