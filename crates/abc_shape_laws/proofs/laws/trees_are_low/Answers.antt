use Rattle.abc_shape_laws.proofs.Trees.{ways-up, ways-short}
use Rattle.abc_shape_laws.proofs.laws.trees_are_low.Goals as goal

pub returns : goal.returns
returns c = record { exist = ways-up; short = ways-short }
