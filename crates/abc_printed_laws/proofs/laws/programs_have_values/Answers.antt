use Rattle.abc_printed_laws.proofs.Values.{programs_have_values}
use Rattle.abc_printed_laws.proofs.laws.programs_have_values.Goals as goal

pub returns : goal.returns
returns c = programs_have_values
