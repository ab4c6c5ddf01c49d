use Rattle.std.proofs.Common.{◌≡◌, ◌∙◌, List, map, sym, subst}
use Rattle.abc_term.specs.Processes.{Definitions}
use Rattle.abc_term.specs.Standing.{definitions_of}
use Rattle.abc_steps.specs.Rows.{choice_of_row, TellRun}
use Rattle.abc_system.specs.declared.row.StepRow.{StepRow}
use Rattle.abc_system.specs.Systems.{row_of, choice_of}
use Rattle.abc_system.specs.Running.{system_in}
use Rattle.abc_system.specs.Runs.{EndsIn, IsStopped}
use Rattle.abc_system.proofs.Following.{replay_from, stopped_from}
use Rattle.abc_system.proofs.by_choices.replay.Goals as goal

pub returns-in-Err : goal.returns-in-Err
returns-in-Err c =
    let before = c.in-Ok.system in
    stopped_from c.args.program.now c.args.choices.now (system_in before) c.in-Err.refusal c.in-Ok.ensures.system
    (subst (λ (d : Definitions). IsStopped d (system_in before) c.args.choices.now c.in-Err.refusal) c.in-Ok.ensures.program
    c.in-Err.ensures.refused)

pub returns-in-Ok-finish : goal.returns-in-Ok-finish
returns-in-Ok-finish c =
    let before = c.in-Ok.system in let after = c.take_choices.new.system in
    let run = c.in-Ok-finish.run' in
    let steps : c.in-Ok-take_choices.steps ≡ run.steps = sym c.in-Ok-finish.ensures.steps in
    let defs = c.in-Ok.ensures.program in
    replay_from c.args.program.now c.args.choices.now (system_in before) (system_in after) run c.in-Ok.ensures.system
    (subst (λ (rs : List StepRow). TellRun (definitions_of c.args.program.now.definitions) (system_in before) (map row_of rs) (system_in after)) steps
    (subst (λ (d : Definitions). TellRun d (system_in before) (map row_of c.in-Ok-take_choices.steps) (system_in after)) defs
    c.in-Ok-take_choices.ensures.run))
    (subst (λ (rs : List StepRow). map choice_of_row (map row_of rs) ≡ map choice_of c.args.choices.now) steps
    c.in-Ok-take_choices.ensures.choices)
    (subst (λ (d : Definitions). EndsIn d run (system_in after)) (c.in-Ok-take_choices.ensures.program ∙ defs) c.in-Ok-finish.ensures.ends)
