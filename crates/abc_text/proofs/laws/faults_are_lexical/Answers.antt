use Rattle.abc_text.proofs.Faults.{faults_are_lexical}
use Rattle.abc_text.proofs.laws.faults_are_lexical.Goals as goal

pub returns : goal.returns
returns c = faults_are_lexical
