-- The components become fewer.
use Rattle.std.proofs.Common.{length}
use Rattle.abc_system.proofs.hearers.+can_hear.Given as goal

abbrev pub decreases-can_hear : goal.decreases-can_hear
decreases-can_hear l = length l.members.now
