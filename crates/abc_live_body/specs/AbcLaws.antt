-- Systems of bodies are the calculus's systems, step by step, and a program's bodies begin as it does.
use Rattle.std.specs.Prelude.{◌≡◌, ◌↔◌, ℕ, List, length, map, slice_get, All, Some}
use Rattle.abc_term.specs.declared.terms.Program.{Program}
use Rattle.abc_term.specs.Processes.{Definitions, System}
use Rattle.abc_term.specs.Standing.{definitions_of, system_of}
use Rattle.abc_term.specs.Systems as systems
use Rattle.abc_checks.specs.Facts.{IsChecked}
use Rattle.abc_packet.specs.declared.choice.Choice.{Choice}
use Rattle.abc_moves.specs.Lives.{StartsAs}
use Rattle.abc_steps.specs.Alike.{AreAlike}
use Rattle.abc_body.specs.Multicasts.{Step, Runs}
use Rattle.abc_live_body.specs.Running.{RunningComponent}
use Rattle.abc_live_body.specs.AbcMeaning.{abc}
use Rattle.abc_live_body.specs.Systems.{bodies_under, choice_of}

-- A step of bodies under the same definitions is the calculus's step of their components by the same
-- choice, and leads to bodies under these definitions.
abbrev pub StepsAreTheCalculus : Type 0
StepsAreTheCalculus =
    (defs : Definitions) (S : System) (c : Choice) (B : List RunningComponent) →
    Step abc (bodies_under defs S) c B
    ↔ ((T : System) × (B ≡ bodies_under defs T) × systems.Step defs S (choice_of c) T)

-- So is a run.
abbrev pub RunsAreTheCalculus : Type 0
RunsAreTheCalculus =
    (defs : Definitions) (S : System) (cs : List Choice) (B : List RunningComponent) →
    Runs abc (bodies_under defs S) cs B
    ↔ ((T : System) × (B ≡ bodies_under defs T) × systems.Runs defs S (map choice_of cs) T)

-- These are all components of the program, in its order, as bodies start them.
pub record AreStarted (p : Program) (B : List RunningComponent) : Type 0 where
  pub count : length B ≡ length p.components
  pub components : (i : ℕ) (b : RunningComponent) → slice_get B i ≡ Some b → StartsAs p i b.component
  pub definitions : All (λ b. b.definitions ≡ definitions_of p.definitions) B

-- They are sound, and are the program's first system but for the order in which interfaces list names.
abbrev pub BodiesBeginSound : Type 0
BodiesBeginSound =
    (p : Program) (B : List RunningComponent) → IsChecked p → AreStarted p B →
    All abc.sound B
    × ((S : System) × (B ≡ bodies_under (definitions_of p.definitions) S) × AreAlike S (system_of p))

-- What they can run is what the program can: the same choices, with ends that are alike.
abbrev pub ProgramsRunAsBodies : Type 0
ProgramsRunAsBodies =
    (p : Program) (B : List RunningComponent) (cs : List Choice) → AreStarted p B →
    ((B' : List RunningComponent) → Runs abc B cs B' →
    (S : System) × (T : System) × (B' ≡ bodies_under (definitions_of p.definitions) S) × AreAlike S T
    × systems.Runs (definitions_of p.definitions) (system_of p) (map choice_of cs) T)
    × ((T : System) → systems.Runs (definitions_of p.definitions) (system_of p) (map choice_of cs) T →
    (S : System) × AreAlike S T × Runs abc B cs (bodies_under (definitions_of p.definitions) S))
