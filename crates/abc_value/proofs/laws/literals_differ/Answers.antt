use Rattle.abc_value.proofs.Alike.{literals_differ}
use Rattle.abc_value.proofs.laws.literals_differ.Goals as goal

pub returns : goal.returns
returns c = literals_differ
