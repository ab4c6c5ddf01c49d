use Rattle.std.proofs.Common.{refl}
use Rattle.abc_shape.specs.Plans.{along}
use Rattle.abc_shape.proofs.links.ring_ends.Goals as goal

pub returns : goal.returns
returns c = along c.args.node c.requires.ring c.requires.several c.requires.there refl refl refl
