use Rattle.abc_sound.proofs.Sounding.{outputs_are_few, inputs_are_few, speaking_places_fit, hearing_places_fit}
use Rattle.abc_sound.proofs.laws.counts_are_small.Goals as goal

pub returns : goal.returns
returns c = record { outputs = outputs_are_few; inputs = inputs_are_few; said = speaking_places_fit; heard = hearing_places_fit }
