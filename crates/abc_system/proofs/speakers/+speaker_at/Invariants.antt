-- The components become fewer.
use Rattle.std.proofs.Common.{length}
use Rattle.abc_system.proofs.speakers.+speaker_at.Given as goal

abbrev pub decreases-speaker_at : goal.decreases-speaker_at
decreases-speaker_at l = length l.members.now
