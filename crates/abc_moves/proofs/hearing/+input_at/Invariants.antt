use Rattle.abc_term.specs.Standing.{process_of}
use Rattle.abc_moves.specs.Arounds.{definitions_around}
use Rattle.abc_moves.specs.Walks.{parts_at}
use Rattle.abc_moves.proofs.hearing.+input_at.Given as goal

abbrev pub decreases-input_at : goal.decreases-input_at
decreases-input_at l = parts_at l.depth (definitions_around l.at.now) (process_of l.p.now)
