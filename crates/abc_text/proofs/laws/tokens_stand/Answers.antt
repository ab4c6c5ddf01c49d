use Rattle.abc_text.proofs.Standing.{tokens_stand}
use Rattle.abc_text.proofs.laws.tokens_stand.Goals as goal

pub returns : goal.returns
returns c = tokens_stand
