use Rattle.abc_moves.specs.Moves.{moved}
use Rattle.abc_moves.proofs.live.Live.label.Goals as goal

pub returns : goal.returns
returns c = (moved c.args.self.now c.in_ok-label.made, c.in_ok-label.ensures)
