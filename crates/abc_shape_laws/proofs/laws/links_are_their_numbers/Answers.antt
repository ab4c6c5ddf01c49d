use Rattle.abc_shape_laws.proofs.Links.{numbers-one, ends-one, numbers-below}
use Rattle.abc_shape_laws.proofs.laws.links_are_their_numbers.Goals as goal

pub returns : goal.returns
returns c = record { number = numbers-one; ends = ends-one; count = numbers-below }
