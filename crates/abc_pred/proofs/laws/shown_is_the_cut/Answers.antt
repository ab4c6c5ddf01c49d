use Rattle.abc_pred.proofs.Looks.{shown_is_the_cut, shown_is_a_map, interfaces_are_their_names, shown_by_names_alone}
use Rattle.abc_pred.proofs.laws.shown_is_the_cut.Goals as goal

pub returns-clause-cut : goal.returns-clause-cut
returns-clause-cut c = shown_is_the_cut

pub returns-clause-map : goal.returns-clause-map
returns-clause-map c = shown_is_a_map

pub returns-clause-set : goal.returns-clause-set
returns-clause-set c = interfaces_are_their_names

pub returns-clause-names_alone : goal.returns-clause-names_alone
returns-clause-names_alone c = shown_by_names_alone
