use Rattle.abc_checks.proofs.Checked.{small_widths}
use Rattle.abc_checks.proofs.laws.widths_are_small.Goals as goal

pub returns : goal.returns
returns c = small_widths
