use Rattle.abc_term.proofs.HearingPlaces.{hearing_exists, discard_is_the_rest}
use Rattle.abc_term.proofs.laws.every_message_is_heard.Goals as goal

pub returns : goal.returns
returns c = record { exists = hearing_exists; discard = discard_is_the_rest }
