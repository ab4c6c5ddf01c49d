use Rattle.std.proofs.Common.{Some, inr}
use Rattle.abc_moves.specs.Labels.{label_of}
use Rattle.abc_moves.proofs.live.Live.hear.Goals as goal

pub put-requires : goal.put-requires
put-requires c = inr (label_of c.args.label.now, Some c.args.place, c.in_ok-made.ensures)
