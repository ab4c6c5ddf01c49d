-- The components become fewer.
use Rattle.std.proofs.Common.{length}
use Rattle.abc_system.proofs.hearers.+append_hearers.Given as goal

abbrev pub decreases-append_hearers : goal.decreases-append_hearers
decreases-append_hearers l = length l.members.now
