use Rattle.abc_moves.specs.Moves.{moved_at}
use Rattle.abc_moves.specs.Trees.{parts}
use Rattle.abc_moves.proofs.Sounding.{same_sound}
use Rattle.abc_moves.proofs.component.change.Goals as goal

pub counted-requires : goal.counted-requires
counted-requires c =
    let ds = c.args.bodies.now.definitions.now in let interface = c.args.interface.now in
    same_sound ds (moved_at c.args.state.now interface c.args.made) (parts c.renew.new.env interface c.put_leaf.new.tree) c.put_leaf.ensures c.requires.sound
