use Rattle.std.proofs.Common.{◌≡◌, take}
use Rattle.abc_run_text.specs.TextOf.{hearers}
use Rattle.abc_run_text.proofs.line.hearers.Given as goal

abbrev pub invariant-loop-hearer : goal.invariant-loop-hearer
invariant-loop-hearer l = l.names ≡ hearers l.program (take l.hearer-index l.heard)
