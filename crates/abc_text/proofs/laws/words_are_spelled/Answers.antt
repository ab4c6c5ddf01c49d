use Rattle.abc_text.proofs.Tables.{words_are_spelled}
use Rattle.abc_text.proofs.laws.words_are_spelled.Goals as goal

pub returns : goal.returns
returns c = words_are_spelled
