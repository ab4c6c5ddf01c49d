use Rattle.std.proofs.Common.{◌≡◌, ◌+◌, List, length, map, refl, sym, subst}
use Rattle.std.proofs.lemmas.Option.{slice_get_read}
use Rattle.abc_term.specs.Processes as term
use Rattle.abc_term.specs.Systems.{Choice, Step, Runs}
use Rattle.abc_steps.proofs.Rows.{rows_tell_runs}
use Rattle.abc_system.specs.declared.row.StepRow.{StepRow}
use Rattle.abc_system.specs.Systems.{choice_of, row_of}
use Rattle.abc_system.specs.Running.{system_in, definitions_in, IsNoStep, StepsBy, IsSame}
use Rattle.abc_system.proofs.Choosing.{at_some, at_none}
use Rattle.abc_system.proofs.Following.{ChosenSoFar, chosen_more}
use Rattle.abc_system.proofs.by_choices.take_choices.Goals as goal

pub returns-in-Ok-None-clause-refused : goal.returns-in-Ok-None-clause-refused
returns-in-Ok-None-clause-refused c =
    let before = c.args.system.now in let now = c.loop-index.system in
    let choices = c.args.choices.now in let choice = c.index-choices-index.result in
    let so = c.loop-index.invariant in
    record {
      choice = choice;
      at = slice_get_read choices (length choices) c.loop-index.index choice refl c.loop-index-test.true c.index-choices-index.is;
      before = system_in now;
      run =
          subst (λ (cs : List Choice). Runs (definitions_in before) (system_in before) cs (system_in now)) so.chosen
          (rows_tell_runs (definitions_in before) (system_in before) (map row_of c.loop-index.steps) (system_in now) so.run);
      none =
          subst (λ (d : term.Definitions). (T : term.System) → ¬ Step d (system_in now) (choice_of choice) T) so.program
          (at_none (IsNoStep now choice) (λ r. StepsBy now choice r c.step.new.self) c.in-Ok-None.field-0 c.in-Ok-None.field-0-is
          c.in-Ok-None.ensures.step);
    }

pub loop-index-preserved : goal.loop-index-preserved
loop-index-preserved c =
    let before = c.args.system.now in let now = c.loop-index.system in let next = c.step.new.self in
    let choice = c.index-choices-index.result in let row = c.in-Ok-Some.row in
    subst (λ (rs : List StepRow). ChosenSoFar c.args.choices.now before (c.loop-index.index + 1) rs next)
    (sym c.in_ok-keep-in-Ok-Some.ensures.ok)
    (chosen_more c.args.choices.now before c.loop-index.index c.loop-index.steps now choice row next c.loop-index-test.true
    c.index-choices-index.is c.loop-index.invariant
    (at_some (IsNoStep now choice) (λ r. StepsBy now choice r next) c.in-Ok-Some.field-0 row c.in-Ok-Some.field-0-is c.in-Ok-Some.ensures.step)
    (at_some (IsSame now next) (λ _. definitions_in next ≡ definitions_in now) c.in-Ok-Some.field-0 row c.in-Ok-Some.field-0-is
    c.in-Ok-Some.ensures.none))
