use Rattle.abc_system.proofs.Following.{TakenSoFar}
use Rattle.abc_system.proofs.by_turns.take_turns.Given as goal

abbrev pub invariant-loop-made : goal.invariant-loop-made
invariant-loop-made l = TakenSoFar l.pick l.initial.system l.made l.steps l.system
