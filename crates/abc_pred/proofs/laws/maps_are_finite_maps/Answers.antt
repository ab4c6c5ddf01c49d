use Rattle.abc_pred.proofs.Looks.{maps_are_what_they_show, setting_sets, setting_keeps_the_others, setting_gives_a_map}
use Rattle.abc_pred.proofs.laws.maps_are_finite_maps.Goals as goal

pub returns-clause-extensional : goal.returns-clause-extensional
returns-clause-extensional c = maps_are_what_they_show

pub returns-clause-set : goal.returns-clause-set
returns-clause-set c = setting_sets

pub returns-clause-others : goal.returns-clause-others
returns-clause-others c = setting_keeps_the_others

pub returns-clause-map : goal.returns-clause-map
returns-clause-map c = setting_gives_a_map
