use Rattle.abc_system.proofs.Following.{ChosenSoFar}
use Rattle.abc_system.proofs.by_choices.take_choices.Given as goal

abbrev pub invariant-loop-index : goal.invariant-loop-index
invariant-loop-index l = ChosenSoFar l.choices l.initial.system l.index l.steps l.system
