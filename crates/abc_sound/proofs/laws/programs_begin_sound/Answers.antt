use Rattle.abc_sound.proofs.Sounding.{programs_begin_sound}
use Rattle.abc_sound.proofs.laws.programs_begin_sound.Goals as goal

pub returns : goal.returns
returns c = programs_begin_sound
