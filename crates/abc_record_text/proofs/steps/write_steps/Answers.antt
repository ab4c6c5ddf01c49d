use Rattle.std.proofs.Common.{◌≡◌, ◌∙◌, ◌+◌, ◌++◌, ap}
use Rattle.abc_system.specs.Systems.{row_of}
use Rattle.abc_system.specs.Running.{definitions_in, IsNoStep, StepsBy, IsSame}
use Rattle.abc_system.proofs.Choosing.{at_some}
use Rattle.abc_run_text.specs.TextOf.{row_text}
use Rattle.abc_record_text.proofs.Stepping.{written_more}
use Rattle.abc_record_text.proofs.steps.write_steps.Goals as goal

pub loop-index-preserved : goal.loop-index-preserved
loop-index-preserved c =
    let program = c.args.program.now in let choices = c.args.choices.now in
    let now = c.loop-index.system in let next = c.step.new.self in
    let index = c.loop-index.index in let choice = c.index-choices-index.result in let row = c.in-Some.row in
    let step = at_some (IsNoStep now choice) (λ r. StepsBy now choice r next) c.in_ok-row.field-0 row c.in-Some.is c.in_ok-row.ensures.step in
    let same =
    at_some (IsSame now next) (λ _. definitions_in next ≡ definitions_in now) c.in_ok-row.field-0 row c.in-Some.is c.in_ok-row.ensures.none in
    let line : c.write_line.new.out ≡ c.loop-index.out ++ row_text program (index + 1) (row_of row) =
    c.in_ok-write_line.ensures ∙ ap (λ t. c.loop-index.out ++ t) (c.in_ok-line.ensures (index + 1)) in
    written_more program choices c.args.system.now index now c.args.out.now c.loop-index.out c.write_line.new.out choice row next
    c.loop-index-test.true c.index-choices-index.is c.loop-index.invariant step same line
