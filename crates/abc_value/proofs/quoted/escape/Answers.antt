use Rattle.abc_value.proofs.Pieces.{no_end_escape}
use Rattle.abc_value.proofs.quoted.escape.Goals as goal

pub returns-then-second-ne92 : goal.returns-then-second-ne92
returns-then-second-ne92 c = no_end_escape _ c.requires c.if-second-ne34.true c.if-second-ne92.true
