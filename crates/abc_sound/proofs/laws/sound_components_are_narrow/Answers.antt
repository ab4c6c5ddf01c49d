use Rattle.abc_sound.proofs.Sounding.{leaves_are_few}
use Rattle.abc_sound.proofs.laws.sound_components_are_narrow.Goals as goal

pub returns : goal.returns
returns c = leaves_are_few
