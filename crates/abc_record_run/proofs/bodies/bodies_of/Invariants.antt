use Rattle.abc_record_run.proofs.Begun.{Begun}
use Rattle.abc_record_run.proofs.bodies.bodies_of.Given as goal

abbrev pub invariant-starting : goal.invariant-starting
invariant-starting l = Begun l.program l.bodies.items l.component
