use Rattle.abc_term.specs.Standing.{definitions_of}
use Rattle.abc_moves.specs.Labels.{label_of}
use Rattle.abc_system.proofs.Preparing.{PreparedSoFar}
use Rattle.abc_system.proofs.prepare.prepare_hearers.Given as goal

abbrev pub invariant-loop-i : goal.invariant-loop-i
invariant-loop-i l =
    PreparedSoFar (definitions_of l.definitions) l.sender (label_of l.label) l.heard l.initial.members l.i l.members l.rest
