use Rattle.abc_world.proofs.Ran.{RanSoFar}
use Rattle.abc_world.proofs.started.Started.run_to_quiet.Given as goal

abbrev pub invariant-running : goal.invariant-running
invariant-running g l = RanSoFar g.B.Body.meaning g.M.Node.machine g.M.Node.blank l.initial.self l.counter l.self
