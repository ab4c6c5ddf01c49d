use Rattle.abc_sound.proofs.Short.{parts_are_short, actions_are_few}
use Rattle.abc_sound.proofs.laws.parts_are_short.Goals as goal

pub returns : goal.returns
returns c = record { parts = parts_are_short; actions = actions_are_few }
