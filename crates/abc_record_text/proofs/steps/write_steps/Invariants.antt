use Rattle.abc_record_text.proofs.Stepping.{WrittenTo}
use Rattle.abc_record_text.proofs.steps.write_steps.Given as goal

abbrev pub invariant-loop-index : goal.invariant-loop-index
invariant-loop-index l = WrittenTo l.program l.choices l.initial.system l.index l.system l.initial.out l.out
