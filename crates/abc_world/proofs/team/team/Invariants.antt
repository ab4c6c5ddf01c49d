use Rattle.std.proofs.Common.{length}
use Rattle.abc_world.proofs.Seated.{Seated}
use Rattle.abc_world.proofs.team.team.Given as goal

abbrev pub invariant-seating : goal.invariant-seating
invariant-seating g l = Seated l.plan l.pick l.initial.left.items l.agents.items l.left.items

abbrev pub decreases-seating : goal.decreases-seating
decreases-seating g l = length l.left.items
