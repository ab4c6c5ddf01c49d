use Rattle.abc_text.proofs.ReadBack.{spellings}
use Rattle.abc_text.proofs.laws.spellings.Goals as goal

pub returns : goal.returns
returns c = spellings
