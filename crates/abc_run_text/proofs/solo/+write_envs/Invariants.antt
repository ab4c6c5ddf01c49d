use Rattle.std.proofs.Common.{length}
use Rattle.abc_run_text.proofs.solo.+write_envs.Given as goal

abbrev pub decreases-write_envs : goal.decreases-write_envs
decreases-write_envs l = length l.components.now
