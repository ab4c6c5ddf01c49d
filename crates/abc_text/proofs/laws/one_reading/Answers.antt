use Rattle.abc_text.proofs.Reading.{one_reading}
use Rattle.abc_text.proofs.laws.one_reading.Goals as goal

pub returns : goal.returns
returns c = one_reading
