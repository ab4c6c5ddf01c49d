use Rattle.abc_shape.proofs.Rows.{tree_even, tree_odd}
use Rattle.abc_shape.proofs.links.tree_ends.Goals as goal

pub returns-then-past-eq0 : goal.returns-then-past-eq0
returns-then-past-eq0 c = tree_even _ _ c.requires.tree c.requires.there c.if-past-eq0.true

pub returns-else-past-eq0 : goal.returns-else-past-eq0
returns-else-past-eq0 c = tree_odd _ _ c.requires.tree c.requires.there c.if-past-eq0.false
