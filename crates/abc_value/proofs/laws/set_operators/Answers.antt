use Rattle.std.proofs.Common.{refl}
use Rattle.abc_value.proofs.laws.set_operators.Goals as goal

pub returns : goal.returns
returns c = record { made = refl; joined = refl; cut = refl; free = refl }
