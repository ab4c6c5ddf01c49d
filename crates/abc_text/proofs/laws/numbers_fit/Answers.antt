use Rattle.abc_text.proofs.Numbers.{numbers_fit}
use Rattle.abc_text.proofs.laws.numbers_fit.Goals as goal

pub returns : goal.returns
returns c = numbers_fit
