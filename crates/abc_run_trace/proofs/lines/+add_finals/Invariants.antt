use Rattle.std.proofs.Common.{length}
use Rattle.abc_run_trace.proofs.lines.+add_finals.Given as goal

abbrev pub decreases-add_finals : goal.decreases-add_finals
decreases-add_finals l = length l.components.now
