use Rattle.abc_term.specs.Standing.{process_of}
use Rattle.abc_moves.specs.Arounds.{definitions_around}
use Rattle.abc_moves.specs.Walks.{parts_at}
use Rattle.abc_moves.proofs.walk.+outputs.Given as goal

abbrev pub decreases-outputs : goal.decreases-outputs
decreases-outputs l = parts_at l.depth (definitions_around l.at.now) (process_of l.p.now)
