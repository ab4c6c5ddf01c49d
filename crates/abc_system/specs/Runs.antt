-- What the runs that are handed out are.
use Rattle.std.specs.Prelude.{◌≡◌, ℕ, IsTrue, ◌↔◌, List, map, take, slice_get, Some}
use Rattle.abc_term.specs.declared.terms.Program.{Program}
use Rattle.abc_term.specs.Processes as term
use Rattle.abc_term.specs.Standing.{definitions_of, system_of}
use Rattle.abc_term.specs.Systems.{Step, Runs, IsSilent}
use Rattle.abc_packet.specs.declared.choice.Choice.{Choice}
use Rattle.abc_steps.specs.Turns.{RunsByTurns}
use Rattle.abc_steps.specs.Rows.{Row, choice_of_row, TellRun}
use Rattle.abc_system.specs.declared.run.Run.{Run}
use Rattle.abc_system.specs.declared.by_choices.ReplayRefusal.{ReplayRefusal}
use Rattle.abc_system.specs.declared.by_choices.ReplayRefusal.TheVariants.{NotAStep, NoMemory}
use Rattle.abc_system.specs.Systems.{choice_of, row_of}
use Rattle.abc_system.specs.Running.{envs_of}

abbrev pub rows_of : Run → List Row
rows_of r = map row_of r.steps

-- The run ends in this system: it has its environments, and tells whether no component can speak.
pub record EndsIn (defs : term.Definitions) (r : Run) (T : term.System) : Type 0 where
  pub finals : r.finals ≡ envs_of T
  pub silent : IsTrue r.silent ↔ IsSilent defs T

-- A run of the calculus from the program's first system, told by its rows.
pub record IsRunOf (p : Program) (r : Run) : Type 0 where
  pub last : term.System
  pub told : TellRun (definitions_of p.definitions) (system_of p) (rows_of r) last
  pub ends : EndsIn (definitions_of p.definitions) r last

-- It is the one by the rule of places.
pub record IsSolo (p : Program) (limit pick : ℕ) (r : Run) : Type 0 where
  pub run : IsRunOf p r
  pub ruled : RunsByTurns (definitions_of p.definitions) limit pick (system_of p) (map choice_of_row (rows_of r)) run.last

-- It is the one by these choices.
pub record IsReplay (p : Program) (choices : List Choice) (r : Run) : Type 0 where
  pub run : IsRunOf p r
  pub chosen : map choice_of_row (rows_of r) ≡ map choice_of choices

-- The choice of this index is no step after those before it.
pub record IsFirstBad (defs : term.Definitions) (S : term.System) (choices : List Choice) (index : ℕ) : Type 0 where
  pub choice : Choice
  pub at : slice_get choices index ≡ Some choice
  pub before : term.System
  pub run : Runs defs S (map choice_of (take index choices)) before
  pub none : (T : term.System) → ¬ Step defs before (choice_of choice) T

-- A refusal names that index. Want of memory says nothing.
abbrev pub IsStopped : term.Definitions → term.System → List Choice → ReplayRefusal → Type 0
IsStopped defs S choices (NotAStep index) = IsFirstBad defs S choices index
IsStopped defs S choices NoMemory = Unit {0}

abbrev pub Refuses : Program → List Choice → ReplayRefusal → Type 0
Refuses p choices e = IsStopped (definitions_of p.definitions) (system_of p) choices e
