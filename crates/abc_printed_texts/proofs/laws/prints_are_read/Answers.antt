use Rattle.abc_printed_texts.proofs.PrintsRead.{prints_are_read as the_law}
use Rattle.abc_printed_texts.proofs.laws.prints_are_read.Goals as goal

pub returns : goal.returns
returns c = the_law
