use Rattle.abc_printed_laws.proofs.Outputs.{outputs_stand}
use Rattle.abc_printed_laws.proofs.laws.outputs_stand.Goals as goal

pub returns : goal.returns
returns c = outputs_stand
