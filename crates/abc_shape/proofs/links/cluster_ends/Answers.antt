use Rattle.abc_shape.proofs.Rows.{cluster_even, cluster_odd}
use Rattle.abc_shape.proofs.links.cluster_ends.Goals as goal

pub returns-then-number-eq0 : goal.returns-then-number-eq0
returns-then-number-eq0 c = cluster_even _ _ c.requires.layout c.requires.cluster c.requires.there c.if-number-eq0.true

pub returns-else-number-eq0 : goal.returns-else-number-eq0
returns-else-number-eq0 c = cluster_odd _ _ c.requires.layout c.requires.cluster c.requires.there c.if-number-eq0.false
