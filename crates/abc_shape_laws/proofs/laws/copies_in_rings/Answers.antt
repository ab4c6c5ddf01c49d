use Rattle.abc_shape_laws.proofs.Rings.{ring-copies}
use Rattle.abc_shape_laws.proofs.laws.copies_in_rings.Goals as goal

pub returns : goal.returns
returns c = ring-copies
