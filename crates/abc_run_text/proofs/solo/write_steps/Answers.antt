use Rattle.std.proofs.Common.{◌≡◌, ◌∙◌, ℕ, ◌+◌, ◌++◌, ap}
use Rattle.abc_term.specs.Systems.{IsSilent}
use Rattle.abc_system.specs.Systems.{row_of}
use Rattle.abc_system.specs.Running.{system_in, definitions_in, StepsAt, IsSame}
use Rattle.abc_system.proofs.Choosing.{at_some}
use Rattle.abc_run_text.specs.TextOf.{row_text}
use Rattle.abc_run_text.proofs.Steps.{steps_more}
use Rattle.abc_run_text.proofs.solo.write_steps.Goals as goal

pub loop-made-preserved : goal.loop-made-preserved
loop-made-preserved c =
    let program = c.args.program.now in
    let now = c.loop-made.system in let next = c.take_turn.new.self in
    let made = c.loop-made.made in let row = c.in-Some.row in
    let step =
    at_some (IsSilent (definitions_in now) (system_in now)) (λ r. StepsAt now (c.args.pick + made) r next) c.in_ok-row.field-0 row
    c.in-Some.is c.in_ok-row.ensures.step in
    let same =
    at_some (IsSame now next) (λ _. definitions_in next ≡ definitions_in now) c.in_ok-row.field-0 row c.in-Some.is c.in_ok-row.ensures.none in
    let written : c.write_row.new.out ≡ c.loop-made.out ++ row_text program (made + 1) (row_of row) =
    c.in_ok-write_row-in-Some.ensures ∙ ap (λ (n : ℕ). c.loop-made.out ++ row_text program (n + 1) (row_of row)) c.from.ensures in
    steps_more program c.args.pick c.args.system.now now made c.args.out.now c.loop-made.out c.write_row.new.out (row_of row) next
    c.loop-made.invariant step same written
