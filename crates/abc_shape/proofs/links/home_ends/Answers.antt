use Rattle.abc_shape.proofs.Rows.{home_even, home_odd}
use Rattle.abc_shape.proofs.links.home_ends.Goals as goal

pub returns-then-number-eq0 : goal.returns-then-number-eq0
returns-then-number-eq0 c = home_even _ _ c.requires.homes c.requires.there c.if-number-eq0.true

pub returns-else-number-eq0 : goal.returns-else-number-eq0
returns-else-number-eq0 c = home_odd _ _ c.requires.homes c.requires.there c.if-number-eq0.false
