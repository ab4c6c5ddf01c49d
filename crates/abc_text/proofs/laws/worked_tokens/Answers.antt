use Rattle.abc_text.proofs.WorkedThrough.{worked_tokens}
use Rattle.abc_text.proofs.laws.worked_tokens.Goals as goal

pub returns : goal.returns
returns c = worked_tokens
