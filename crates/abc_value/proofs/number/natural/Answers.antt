use Rattle.abc_value.proofs.Fronts.{natural_none}
use Rattle.abc_value.proofs.number.natural.Goals as goal

pub returns-in-None : goal.returns-in-None
returns-in-None c = natural_none _ c.requires c.in-None.ensures
