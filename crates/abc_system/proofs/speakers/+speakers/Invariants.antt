-- The components become fewer.
use Rattle.std.proofs.Common.{length}
use Rattle.abc_system.proofs.speakers.+speakers.Given as goal

abbrev pub decreases-speakers : goal.decreases-speakers
decreases-speakers l = length l.members.now
