use Rattle.abc_shape_laws.proofs.TreePaths.{tree-copies}
use Rattle.abc_shape_laws.proofs.laws.copies_in_trees.Goals as goal

pub returns : goal.returns
returns c = tree-copies
