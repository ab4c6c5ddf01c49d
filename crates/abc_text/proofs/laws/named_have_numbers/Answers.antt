use Rattle.abc_text.proofs.Growing.{named_have_numbers}
use Rattle.abc_text.proofs.laws.named_have_numbers.Goals as goal

pub returns : goal.returns
returns c = named_have_numbers
