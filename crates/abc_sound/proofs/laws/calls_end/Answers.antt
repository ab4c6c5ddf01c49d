use Rattle.abc_sound.proofs.Sounding.{called_are_defined, sound_calls_end}
use Rattle.abc_sound.proofs.laws.calls_end.Goals as goal

pub returns : goal.returns
returns c = record { defined = called_are_defined; ends = sound_calls_end }
