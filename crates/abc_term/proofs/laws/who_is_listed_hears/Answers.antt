use Rattle.abc_term.proofs.Hearers.{listed_hear, listed_rise, sender_exists}
use Rattle.abc_term.proofs.laws.who_is_listed_hears.Goals as goal

pub returns : goal.returns
returns c = record { sender = sender_exists; hearers = listed_hear; rising = listed_rise }
