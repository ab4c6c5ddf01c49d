use Rattle.abc_run_text.specs.SoloTexts.{WritesSteps}
use Rattle.abc_run_text.proofs.solo.write_steps.Given as goal

abbrev pub invariant-loop-made : goal.invariant-loop-made
invariant-loop-made l = WritesSteps l.program l.pick l.initial.system l.system l.made l.initial.out l.out
