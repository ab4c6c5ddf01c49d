use Rattle.abc_sound.proofs.Existing.{least_widths_exist, least_breadths_exist}
use Rattle.abc_sound.proofs.laws.least_measures_exist.Goals as goal

pub returns : goal.returns
returns c = record { widths = least_widths_exist; breadths = least_breadths_exist }
