-- Laws of what a checked program can become.
use Rattle.std.specs.Prelude.{◌≡◌, ◌≤◌, ◌<◌, ◌^◌, ℕ, IsTrue, List, Option, Some, slice_get}
use Rattle.abc_pred.specs.declared.names.Name.{Name}
use Rattle.abc_pred.specs.Maps.{lists}
use Rattle.abc_term.specs.declared.terms.Definition.{Definition}
use Rattle.abc_term.specs.declared.terms.Component.{Component}
use Rattle.abc_term.specs.declared.terms.Program.{Program}
use Rattle.abc_term.specs.Processes.{Process}
use Rattle.abc_term.specs.Processes as term
use Rattle.abc_term.specs.Substitution.{Values, put}
use Rattle.abc_term.specs.Standing.{definitions_of, component_of}
use Rattle.abc_term.specs.Speaking.{Label, Speaks, outs}
use Rattle.abc_term.specs.Hearing.{Hears, ins}
use Rattle.abc_term.specs.Guarded.{IsGuarded, defines}
use Rattle.abc_term.specs.Calls.{calls}
use Rattle.abc_checks.specs.Measures.{width_of, breadth_of, IsLeastSolution}
use Rattle.abc_checks.specs.Facts.{IsChecked}
use Rattle.abc_checks.specs.declared.limits.TheConstants.{WIDEST, BROADEST}
use Rattle.abc_sound.specs.declared.limits.TheConstants.{MOST_ACTIONS, MOST_MOVES}
use Rattle.abc_sound.specs.Built.{IsPartOf}
use Rattle.abc_sound.specs.Sound.{IsSound}
use Rattle.abc_sound.specs.Walks.{parts, actions, leaves}

-- ---- The equations of width and breadth have a least solution, whatever the definitions.
abbrev pub LeastWidthsExist : Type 0
LeastWidthsExist = (ds : List Definition) → (of_call : Name → ℕ) × IsLeastSolution width_of (definitions_of ds) of_call

abbrev pub LeastBreadthsExist : Type 0
LeastBreadthsExist = (ds : List Definition) → (of_call : Name → ℕ) × IsLeastSolution breadth_of (definitions_of ds) of_call

-- ---- What is sound: each component as its program begins with it, and all that it becomes.
abbrev pub ProgramsBeginSound : Type 0
ProgramsBeginSound =
    (p : Program) → IsChecked p → (i : ℕ) (C : Component) → slice_get p.components i ≡ Some C → IsSound p (component_of C)

abbrev pub SpeakingKeepsSoundness : Type 0
SpeakingKeepsSoundness =
    (p : Program) (C : term.Component) (place : ℕ) (l : Label) (C' : term.Component) →
    IsSound p C → Speaks (definitions_of p.definitions) C place l C' → IsSound p C'

abbrev pub HearingKeepsSoundness : Type 0
HearingKeepsSoundness =
    (p : Program) (C : term.Component) (l : Label) (place : Option ℕ) (C' : term.Component) →
    IsSound p C → Hears (definitions_of p.definitions) C l place C' → IsSound p C'

-- ---- What the walk over a part of a checked program meets, whatever values are put for its variables.
abbrev pub PartsAreShort : Type 0
PartsAreShort =
    (p : Program) → IsChecked p → (P : Process) → IsPartOf p P → (bs : Values) →
    parts (definitions_of p.definitions) (put bs P) ≤ BROADEST

abbrev pub ActionsAreFew : Type 0
ActionsAreFew =
    (p : Program) → IsChecked p → (P : Process) → IsPartOf p P → (bs : Values) →
    actions (definitions_of p.definitions) (put bs P) ≤ MOST_ACTIONS

-- ---- A sound component has at most 64 processes side by side, and few moves, whose places fit 16 bits.
abbrev pub LeavesAreFew : Type 0
LeavesAreFew = (p : Program) (C : term.Component) → IsSound p C → leaves C.process ≤ WIDEST

abbrev pub OutputsAreFew : Type 0
OutputsAreFew = (p : Program) (C : term.Component) → IsSound p C → outs (definitions_of p.definitions) C ≤ MOST_MOVES

abbrev pub InputsAreFew : Type 0
InputsAreFew =
    (p : Program) (C : term.Component) → IsSound p C → (l : Label) → ins (definitions_of p.definitions) C l ≤ MOST_MOVES

abbrev pub SpeakingPlacesFit : Type 0
SpeakingPlacesFit =
    (p : Program) (C : term.Component) (place : ℕ) (l : Label) (C' : term.Component) →
    IsSound p C → Speaks (definitions_of p.definitions) C place l C' → place < 2 ^ 16

abbrev pub HearingPlacesFit : Type 0
HearingPlacesFit =
    (p : Program) (C : term.Component) (l : Label) (place : ℕ) (C' : term.Component) →
    IsSound p C → Hears (definitions_of p.definitions) C l (Some place) C' → place < 2 ^ 16

-- ---- Each call in a sound component, behind actions or not, has a definition, and its unguarded calls end: unfolding as
-- deep as there are definitions loses no move.
abbrev pub CalledAreDefined : Type 0
CalledAreDefined =
    (p : Program) (C : term.Component) → IsSound p C → (c : Name) → IsTrue (lists (calls C.process) c) →
    IsTrue (defines (definitions_of p.definitions) c)

abbrev pub SoundCallsEnd : Type 0
SoundCallsEnd = (p : Program) (C : term.Component) → IsSound p C → IsGuarded (definitions_of p.definitions) C.process
