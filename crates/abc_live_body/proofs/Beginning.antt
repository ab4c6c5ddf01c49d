-- The bodies that a program begins with.
use Rattle.std.proofs.Common.{◌≡◌, ◌∙◌, ℕ, suc, ◌<◌, List, [], ◌∷◌, length, map, All, Some, refl, ap, sym, subst, slice_get, arith}
use Rattle.std.proofs.lemmas.List.{length-map}
use Rattle.std.proofs.lemmas.List.Elements.{All-head, All-tail}
use Rattle.std.proofs.lemmas.Option.{slice_get_within}
use Rattle.abc_checks.specs.Facts.{IsChecked}
use Rattle.abc_term.specs.declared.terms.Program.{Program}
use Rattle.abc_term.specs.declared.terms.Component.{Component}
use Rattle.abc_term.specs.Processes as term
use Rattle.abc_term.specs.Standing.{definitions_of, component_of, system_of}
use Rattle.abc_term.specs.Systems as systems
use Rattle.abc_sound.proofs.Sounding.{programs_begin_sound}
use Rattle.abc_packet.specs.declared.choice.Choice.{Choice}
use Rattle.abc_moves.specs.Lives.{BeginsAs}
use Rattle.abc_moves.proofs.Sounding.{sound-process}
use Rattle.abc_steps.specs.Alike.{IsAlike, AreAlike}
use Rattle.abc_steps.specs.Rows.{choice_of_row}
use Rattle.abc_steps.proofs.Rows.{rows_tell_runs, runs_have_rows}
use Rattle.abc_steps.proofs.RowTurns.{alike_rows}
use Rattle.abc_body.specs.Multicasts.{Runs}
use Rattle.abc_live_body.specs.Running.{RunningComponent}
use Rattle.abc_live_body.specs.AbcMeaning.{abc, IsSoundBody}
use Rattle.abc_live_body.specs.Systems.{bodies_under, choice_of}
use Rattle.abc_live_body.specs.AbcLaws.{AreStarted, BodiesBeginSound, ProgramsRunAsBodies}
use Rattle.abc_live_body.proofs.Found.{element_at, all_at, all_from}
use Rattle.abc_live_body.proofs.Steps.{runs_are_the_calculus}

-- The components that bodies are.
abbrev components_in : List RunningComponent → term.System
components_in B = map (λ b. b.component) B

-- under one program's definitions they are these components
under_these : (defs : term.Definitions) (B : List RunningComponent) → All (λ b. b.definitions ≡ defs) B →
    B ≡ bodies_under defs (components_in B)
under_these defs [] all = refl
under_these defs (b ∷ B) all =
    let P : RunningComponent → Type 0 = λ x. x.definitions ≡ defs in
    let first = All-head P b B all in
    let rest = under_these defs B (All-tail P b B all) in
    λ t. record { definitions = first t; component = b.component } ∷ rest t

-- a body begins sound
sound_at : (p : Program) (b : RunningComponent) (C : Component) (i : ℕ) → IsChecked p → slice_get p.components i ≡ Some C →
    BeginsAs (component_of C) b.component → b.definitions ≡ definitions_of p.definitions → IsSoundBody b
sound_at p b C i checked e begins under =
    ∣ (p, sym under, sound-process p (component_of C) b.component begins.process (programs_begin_sound p checked i C e)) ∣₁

all_sound : (p : Program) (B : List RunningComponent) → IsChecked p → AreStarted p B → All IsSoundBody B
all_sound p B checked started =
    all_from IsSoundBody B (λ i b e.
    let n = started.count in
    let low = slice_get_within B i b e in
    let C = element_at p.components i (omega arith) in
    sound_at p b C.0 i checked C.1 (started.components i b e C.0 C.1)
    (all_at (λ x. x.definitions ≡ definitions_of p.definitions) B i b started.definitions e))

-- they are alike to the program's components
begun_alike : (B : List RunningComponent) (cs : List Component) → length B ≡ length cs →
    ((i : ℕ) (b : RunningComponent) (C : Component) → slice_get B i ≡ Some b → slice_get cs i ≡ Some C →
    BeginsAs (component_of C) b.component) →
    AreAlike (components_in B) (map component_of cs)
begun_alike [] [] n begun = tt
begun_alike [] (C ∷ cs) n begun = absurd (omega arith)
begun_alike (b ∷ B) [] n begun = absurd (omega arith)
begun_alike (b ∷ B) (C ∷ cs) n begun =
    let first = begun 0 b C refl refl in
    let more : length B ≡ length cs = omega arith in (
      record { env = first.env; interface = first.interface; process = first.process },
      begun_alike B cs more (λ i c D e f. begun (suc i) c D e f),
    )

started_alike : (p : Program) (B : List RunningComponent) → AreStarted p B → AreAlike (components_in B) (system_of p)
started_alike p B started = begun_alike B p.components started.count (λ i b C e f. started.components i b e C f)

pub bodies_begin_sound : BodiesBeginSound
bodies_begin_sound p B checked started = (
  all_sound p B checked started,
  (components_in B, under_these (definitions_of p.definitions) B started.definitions, started_alike p B started),
)

-- ---- the runs of systems that are alike
alike_back : (S T : term.System) → AreAlike S T → AreAlike T S
alike_back [] [] a = tt
alike_back [] (D ∷ T) a = elim a [ ]
alike_back (C ∷ S) [] a = elim a [ ]
alike_back (C ∷ S) (D ∷ T) a = (
  record { env = sym a.0.env; interface = λ n. sym (a.0.interface n); process = sym a.0.process },
  alike_back S T a.1,
)

alike_runs : (defs : term.Definitions) (S S' : term.System) (cs : List systems.Choice) (T : term.System) → AreAlike S S' →
    systems.Runs defs S cs T → (T' : term.System) × AreAlike T T' × systems.Runs defs S' cs T'
alike_runs defs S S' cs T a run =
    let told = runs_have_rows defs S cs T run in
    let there = alike_rows defs S S' told.0 T a told.1 in (
      there.0,
      there.1,
      subst (λ (ds : List systems.Choice). systems.Runs defs S' ds there.0) told.2 (rows_tell_runs defs S' told.0 there.0 there.2),
    )

pub programs_run_as_bodies : ProgramsRunAsBodies
programs_run_as_bodies p B cs started =
    let defs = definitions_of p.definitions in
    let S = components_in B in
    let under = under_these defs B started.definitions in
    let alike = started_alike p B started in (
      λ B' run.
          let own = (runs_are_the_calculus defs S cs B').0 (subst (λ (X : List RunningComponent). Runs abc X cs B') under run) in
          let there = alike_runs defs S (system_of p) (map choice_of cs) own.0 alike own.2 in
          (own.0, there.0, own.1, there.1, there.2),
      λ T run.
          let own = alike_runs defs (system_of p) S (map choice_of cs) T (alike_back S (system_of p) alike) run in
          let here = (runs_are_the_calculus defs S cs (bodies_under defs own.0)).1 (own.0, refl, own.2) in
          (own.0, alike_back T own.0 own.1, subst (λ (X : List RunningComponent). Runs abc X cs (bodies_under defs own.0)) (sym under) here),
    )
