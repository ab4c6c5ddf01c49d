use Rattle.std.proofs.Common.{arith}
use Rattle.abc_shape.proofs.Rows.{at-number}
use Rattle.abc_shape.proofs.links.ends_of.Goals as goal

pub returns-in-Ring-2 : goal.returns-in-Ring-2
returns-in-Ring-2 c = at-number _ _ _ _ _ (omega arith) c.ring_ends.ensures

pub returns-in-Tree : goal.returns-in-Tree
returns-in-Tree c = at-number _ _ _ _ _ (omega arith) c.tree_ends.ensures
