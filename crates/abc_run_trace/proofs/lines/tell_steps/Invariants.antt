use Rattle.std.proofs.Common.{take}
use Rattle.abc_run_trace.specs.Telling.{TellEach}
use Rattle.abc_run_trace.proofs.lines.tell_steps.Given as goal

abbrev pub invariant-loop-row : goal.invariant-loop-row
invariant-loop-row l = TellEach l.program (take l.row-index l.rows) l.lines
