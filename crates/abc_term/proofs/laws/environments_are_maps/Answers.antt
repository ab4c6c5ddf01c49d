use Rattle.abc_term.proofs.MapsStay.{programs_begin_with_maps, speaking_keeps_maps, labels_show_maps, hearing_keeps_maps, runs_keep_maps}
use Rattle.abc_term.proofs.laws.environments_are_maps.Goals as goal

pub returns : goal.returns
returns c = record { first = programs_begin_with_maps; speaking = speaking_keeps_maps; labels = labels_show_maps; hearing = hearing_keeps_maps; runs = runs_keep_maps }
