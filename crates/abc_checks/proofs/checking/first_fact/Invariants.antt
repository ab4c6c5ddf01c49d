use Rattle.abc_checks.proofs.Answering.{NoneBefore}
use Rattle.abc_checks.proofs.checking.first_fact.Given as goal

abbrev pub invariant-loop-cause : goal.invariant-loop-cause
invariant-loop-cause l = NoneBefore l.program l.cause-index
