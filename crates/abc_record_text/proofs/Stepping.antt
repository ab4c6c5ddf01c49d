-- Steps of choices that are a run, written as they are made.
use Rattle.std.proofs.Common.{◌≡◌, ◌∙◌, ℕ, ◌+◌, ◌<◌, List, [], ◌∷◌, ◌++◌, length, map, take, drop, get_or, ap, sym, subst, append_assoc, arith}
use Rattle.std.proofs.lemmas.List.{drop_more, length-map, length-take-le, map-append}
use Rattle.abc_packet.specs.declared.choice.Choice.{Choice}
use Rattle.abc_term.specs.Processes as term
use Rattle.abc_term.specs.Systems as systems
use Rattle.abc_term.specs.declared.terms.Program.{Program}
use Rattle.abc_term.proofs.Steps.{step_is_determined}
use Rattle.abc_steps.specs.Rows.{Row, choice_of_row}
use Rattle.abc_steps.proofs.Rows.{step_of_row}
use Rattle.abc_system.specs.declared.row.StepRow.{StepRow}
use Rattle.abc_system.specs.declared.system.System.{System}
use Rattle.abc_system.specs.Systems.{choice_of, row_of}
use Rattle.abc_system.specs.Running.{system_in, definitions_in, StepsBy}
use Rattle.abc_system.proofs.Following.{ChosenSoFar, chosen_more}
use Rattle.abc_trace.specs.Texts.{numbered}
use Rattle.abc_trace.proofs.Numbered.{numbered-more}
use Rattle.abc_run_text.specs.TextOf.{row_text}
use Rattle.abc_record_text.specs.RecordTexts.{CanRun}

-- The steps of the first choices, so many, are made and written, and the others are a run from where they lead.
pub record WrittenTo (p : Program) (choices : List Choice) (before : System) (index : ℕ) (now : System) (text text' : List ℕ) : Type 0 where
  pub steps : List StepRow
  pub so : ChosenSoFar choices before index steps now
  pub written : text' ≡ text ++ numbered (row_text p) 1 (map row_of steps)
  pub rest : CanRun (definitions_in now) (system_in now) (drop index choices)

-- the next choice is a step, and the others are a run from where it leads
pub next_step :
    (defs : term.Definitions) (S : term.System) (choices : List Choice) (index : ℕ) (choice : Choice)
    → index < length choices → choice ≡ get_or choices index choice → CanRun defs S (drop index choices)
    → (U : term.System) × systems.Step defs S (choice_of choice) U × CanRun defs U (drop (index + 1) choices)
next_step defs S choices index choice lt is can =
    let others = drop (index + 1) choices in
    let split : drop index choices ≡ choice ∷ others = drop_more choices index choice lt ∙ ap (λ (c : Choice). c ∷ others) (sym is) in
    let run = subst (λ (cs : List Choice). systems.Runs defs S (map choice_of cs) can.0) split can.1 in
    (run.0, run.1, (can.0, run.2))

-- one step more
pub written_more :
    (p : Program) (choices : List Choice) (before : System) (index : ℕ) (now : System) (text text' text'' : List ℕ) (choice : Choice) (row : StepRow)
    (next : System) → index < length choices → choice ≡ get_or choices index choice → WrittenTo p choices before index now text text'
    → StepsBy now choice row next → definitions_in next ≡ definitions_in now → text'' ≡ text' ++ row_text p (index + 1) (row_of row)
    → WrittenTo p choices before (index + 1) next text text''
written_more p choices before index now text text' text'' choice row next lt is to step same more =
    let defs = definitions_in now in
    let others = drop (index + 1) choices in
    let rows = map row_of to.steps in
    let line = row_text p (index + 1) (row_of row) in
    let first = next_step defs (system_in now) choices index choice lt is to.rest in
    let made : systems.Step defs (system_in now) (choice_of choice) (system_in next) =
    subst (λ (c : systems.Choice). systems.Step defs (system_in now) c (system_in next)) step.0
    (step_of_row defs (system_in now) (row_of row) (system_in next) step.1) in
    let there : first.0 ≡ system_in next =
    step_is_determined defs (system_in now) (choice_of choice) first.0 (system_in next) first.1 made in
    let many : length rows ≡ index =
    sym (length-map rows choice_of_row) ∙ ap (λ (cs : List systems.Choice). length cs) to.so.chosen
    ∙ length-map (take index choices) choice_of ∙ length-take-le index choices (omega (arith, lt)) in
    let number : index + 1 ≡ 1 + length rows = omega (arith, many) in
    record {
      steps = to.steps ++ row ∷ [];
      so = chosen_more choices before index to.steps now choice row next lt is to.so step same;
      written =
          more
          ∙ ap (λ (t : List ℕ). t ++ line) to.written
          ∙ append_assoc text (numbered (row_text p) 1 rows) line
          ∙ ap (λ (n : ℕ). text ++ (numbered (row_text p) 1 rows ++ row_text p n (row_of row))) number
          ∙ ap (λ (t : List ℕ). text ++ t) (sym (numbered-more (row_text p) 1 rows (row_of row)))
          ∙ ap (λ (rs : List Row). text ++ numbered (row_text p) 1 rs) (sym (map-append row_of to.steps (row ∷ [])));
      rest =
          subst (λ (d : term.Definitions). CanRun d (system_in next) others) (sym same)
          (subst (λ (X : term.System). CanRun defs X others) there first.2);
    }
