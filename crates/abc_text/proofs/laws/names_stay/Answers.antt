use Rattle.abc_text.proofs.Growing.{names_stay}
use Rattle.abc_text.proofs.laws.names_stay.Goals as goal

pub returns : goal.returns
returns c = names_stay
