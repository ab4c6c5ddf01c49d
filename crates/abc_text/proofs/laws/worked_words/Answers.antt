use Rattle.abc_text.proofs.WorkedThrough.{worked_words}
use Rattle.abc_text.proofs.laws.worked_words.Goals as goal

pub returns : goal.returns
returns c = worked_words
