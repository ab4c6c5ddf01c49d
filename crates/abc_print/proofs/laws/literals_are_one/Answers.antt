use Rattle.abc_print.proofs.LiteralBytes.{literals}
use Rattle.abc_print.proofs.laws.literals_are_one.Goals as goal

pub returns : goal.returns
returns c = literals
