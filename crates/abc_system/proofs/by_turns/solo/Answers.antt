use Rattle.std.proofs.Common.{◌≡◌, ◌⊎◌, ◌∙◌, ◌≤◌, List, length, map, sym, subst}
use Rattle.abc_term.specs.Processes.{Definitions}
use Rattle.abc_term.specs.Standing.{definitions_of}
use Rattle.abc_term.specs.Systems.{IsSilent}
use Rattle.abc_steps.specs.Rows.{TellTurns}
use Rattle.abc_system.specs.declared.row.StepRow.{StepRow}
use Rattle.abc_system.specs.Systems.{row_of}
use Rattle.abc_system.specs.Running.{system_in}
use Rattle.abc_system.specs.Runs.{EndsIn}
use Rattle.abc_system.proofs.Following.{solo_from}
use Rattle.abc_system.proofs.by_turns.solo.Goals as goal

pub returns : goal.returns
returns c =
    let before = c.in_ok-system.system in let after = c.take_turns.new.system in
    let run = c.in_ok-run.run' in
    let steps : c.in_ok-steps.steps ≡ run.steps = sym c.in_ok-run.ensures.steps in
    let defs = c.in_ok-system.ensures.program in
    solo_from c.args.program.now c.args.limit c.args.pick (system_in before) (system_in after) run c.in_ok-system.ensures.system
    (subst (λ (rs : List StepRow). TellTurns (definitions_of c.args.program.now.definitions) c.args.pick (system_in before) (map row_of rs) (system_in after)) steps
    (subst (λ (d : Definitions). TellTurns d c.args.pick (system_in before) (map row_of c.in_ok-steps.steps) (system_in after)) defs
    c.in_ok-steps.ensures.turns))
    (subst (λ (rs : List StepRow). length rs ≤ c.args.limit) steps c.in_ok-steps.ensures.most)
    (subst (λ (rs : List StepRow). (length rs ≡ c.args.limit) ⊎ IsSilent (definitions_of c.args.program.now.definitions) (system_in after)) steps
    (subst (λ (d : Definitions). (length c.in_ok-steps.steps ≡ c.args.limit) ⊎ IsSilent d (system_in after)) defs c.in_ok-steps.ensures.ends))
    (subst (λ (d : Definitions). EndsIn d run (system_in after)) (c.in_ok-steps.ensures.program ∙ defs) c.in_ok-run.ensures.ends)
