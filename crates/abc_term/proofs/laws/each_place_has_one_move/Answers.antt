use Rattle.abc_term.proofs.SpeakingPlaces.{speaking_has_its_places, speaking_is_determined}
use Rattle.abc_term.proofs.HearingPlaces.{hearing_has_its_places, hearing_is_determined}
use Rattle.abc_term.proofs.laws.each_place_has_one_move.Goals as goal

pub returns : goal.returns
returns c = record { outputs = speaking_has_its_places; one_output = speaking_is_determined; inputs = hearing_has_its_places; one_input = hearing_is_determined }
