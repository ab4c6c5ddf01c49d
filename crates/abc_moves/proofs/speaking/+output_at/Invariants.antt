use Rattle.abc_term.specs.Standing.{process_of}
use Rattle.abc_moves.specs.Arounds.{definitions_around}
use Rattle.abc_moves.specs.Walks.{parts_at}
use Rattle.abc_moves.proofs.speaking.+output_at.Given as goal

abbrev pub decreases-output_at : goal.decreases-output_at
decreases-output_at l = parts_at l.depth (definitions_around l.at.now) (process_of l.p.now)
