use Rattle.std.proofs.Common.{◌≡◌, ◌+◌, List, sym, subst}
use Rattle.abc_term.specs.Systems.{IsSilent}
use Rattle.abc_system.specs.declared.row.StepRow.{StepRow}
use Rattle.abc_system.specs.Running.{system_in, definitions_in, StepsAt, IsSame}
use Rattle.abc_system.proofs.Choosing.{at_some}
use Rattle.abc_system.proofs.Following.{TakenSoFar, taken_more}
use Rattle.abc_system.proofs.by_turns.take_turns.Goals as goal

pub loop-made-preserved : goal.loop-made-preserved
loop-made-preserved c =
    let before = c.args.system.now in let now = c.loop-made.system in let next = c.take_turn.new.self in
    let row = c.in-Some.row in
    let step =
    at_some (IsSilent (definitions_in now) (system_in now)) (λ r. StepsAt now (c.args.pick + c.loop-made.made) r next) c.in_ok-row.field-0 row
    c.in-Some.is c.in_ok-row.ensures.step in
    let same =
    at_some (IsSame now next) (λ _. definitions_in next ≡ definitions_in now) c.in_ok-row.field-0 row c.in-Some.is c.in_ok-row.ensures.none in
    subst (λ (rs : List StepRow). TakenSoFar c.args.pick before (c.loop-made.made + 1) rs next) (sym c.in_ok-push-in-Some.ensures.ok)
    (taken_more c.args.pick before c.loop-made.made c.loop-made.steps now row next c.loop-made.invariant step same)
