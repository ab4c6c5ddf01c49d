-- Bodies that can't speak are components without outputs.
use Rattle.std.proofs.Common.{◌≡◌, ◌∙◌, length, map, sym, ap, subst, arith, inl, inr}
use Rattle.std.specs.Prelude.{Some, option_map, slice_get}
use Rattle.std.proofs.lemmas.Bool.{cases_lt}
use Rattle.std.proofs.lemmas.Option.{slice_get-map}
use Rattle.abc_term.specs.Processes.{Component, Definitions, System}
use Rattle.abc_term.specs.Speaking.{outs}
use Rattle.abc_term.specs.Standing.{definitions_of, system_of}
use Rattle.abc_term.specs.Systems.{IsSilent}
use Rattle.abc_term.proofs.Steps.{run_is_determined}
use Rattle.abc_moves.specs.declared.label.Label.{Label}
use Rattle.abc_steps.proofs.AlikeSteps.{alike_silent}
use Rattle.abc_body.specs.Meanings.{CanSpeak}
use Rattle.abc_live_body.specs.AbcMeaning.{abc}
use Rattle.abc_live_body.specs.Running.{RunningComponent}
use Rattle.abc_live_body.specs.Systems.{bodies_under, choice_of}
use Rattle.abc_live_body.proofs.Bodies.{can_where}
use Rattle.abc_live_body.proofs.Found.{all_from, element_at}
use Rattle.abc_network.specs.Networks.{Net, Rules}
use Rattle.abc_network_laws.specs.Simulation.{body_at}
use Rattle.abc_network_laws.proofs.Lists.{get-within}
use Rattle.abc_network_laws.proofs.Simulates.{length-map}
use Rattle.abc_schedule.specs.Legal.{KeepsRecords}
use Rattle.abc_program_records.proofs.Telling.{tells-the-program}
use Rattle.abc_record_ends.specs.Ends.{EndsRight, NobodyCanSpeak}
use Rattle.abc_record_ends.specs.ProgramEnds.{EndsTheProgram}

-- The system whose components are the bodies of a network is silent where none of these can speak.
bodies-silent : {N : Type 0} (defs : Definitions) (S : System) (w : Net RunningComponent Label N) →
    map body_at w.agents ≡ bodies_under defs S → NobodyCanSpeak abc w → IsSilent defs S
bodies-silent defs S w same none =
    all_from (λ C. outs defs C ≡ 0) S (λ i C at.
    let under : Component → RunningComponent = λ D. record { definitions = defs; component = D } in
    let many : length w.agents ≡ length S =
    sym (length-map body_at w.agents) ∙ (ap length same ∙ length-map under S) in
    let low = get-within S i C at in
    let a = element_at w.agents i (omega arith) in
    let here : slice_get (map body_at w.agents) i ≡ Some (body_at a.0) =
    slice_get-map body_at w.agents i ∙ ap (option_map body_at) a.1 in
    let there : slice_get (map under S) i ≡ Some (under C) = slice_get-map under S i ∙ ap (option_map under) at in
    let both : Some (under C) ≡ Some (body_at a.0) = sym there ∙ (ap (λ v. slice_get v i) (sym same) ∙ here) in
    let is : under C ≡ body_at a.0 = cc in
    elim (cases_lt 0 (outs defs C)) [
      | inl some ↦ absurd (none i a.0 a.1 (subst (λ (b : RunningComponent). CanSpeak abc b) is (can_where (under C) some)))
      | inr few ↦ omega arith
    ])

-- The run that a record tells ends at the limit, or in a system that is silent.
pub ends-the-program : {N : Type 0} (r : Rules Label N) → KeepsRecords abc r → EndsRight abc r → EndsTheProgram r
ends-the-program r keeps ends = λ p bodies logs l choices started same are.
    let told = tells-the-program r keeps p bodies logs l choices started same are in
    let defs = definitions_of p.definitions in (
      told.0,
      told.1,
      told.2,
      told.3,
      told.4,
      (λ U run. run_is_determined defs (system_of p) (map choice_of choices) U told.1 run told.4),
      elim (ends bodies logs l) [
        | inl full ↦ inl (same ∙ full)
        | inr none ↦ inr (alike_silent defs told.0 told.1 told.3 (bodies-silent defs told.0 l.last told.2 none))
      ],
    )
