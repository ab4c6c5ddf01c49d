-- The system that a `System` stands for, and its steps.
use Rattle.std.specs.Prelude.{◌≡◌, ℕ, List, map}
use Rattle.abc_pred.specs.Maps.{Entries}
use Rattle.abc_term.specs.Processes as term
use Rattle.abc_term.specs.Standing.{definitions_of}
use Rattle.abc_term.specs.Systems.{Step}
use Rattle.abc_packet.specs.declared.choice.Choice.{Choice}
use Rattle.abc_steps.specs.Rows.{choice_of_row, TellsStep, TellsTurn}
use Rattle.abc_system.specs.declared.row.StepRow.{StepRow}
use Rattle.abc_system.specs.declared.system.System.{System}
use Rattle.abc_system.specs.Members.{now_in}
use Rattle.abc_system.specs.Systems.{choice_of, row_of}

abbrev pub system_in : System → term.System
system_in s = map now_in s.members.items

-- The definitions under which all its components run.
abbrev pub definitions_in : System → term.Definitions
definitions_in s = definitions_of s.program.now.definitions

-- The environments of a system, in order.
abbrev pub envs_of : term.System → List Entries
envs_of S = map (λ C. C.env) S

-- The rules have no such step.
abbrev pub IsNoStep : System → Choice → Type 0
IsNoStep s c = (T : term.System) → ¬ Step (definitions_in s) (system_in s) (choice_of c) T

-- The step of the choice, told by the row, leads from the one to the other.
abbrev pub StepsBy : System → Choice → StepRow → System → Type 0
StepsBy s c r t =
    (choice_of_row (row_of r) ≡ choice_of c) × TellsStep (definitions_in s) (system_in s) (row_of r) (system_in t)

-- So does the step by the rule of places at a turn.
abbrev pub StepsAt : System → ℕ → StepRow → System → Type 0
StepsAt s turn r t = TellsTurn (definitions_in s) (system_in s) turn (row_of r) (system_in t)

-- They stand for the same system under the same definitions.
abbrev pub IsSame : System → System → Type 0
IsSame s t = (system_in t ≡ system_in s) × (definitions_in t ≡ definitions_in s)
