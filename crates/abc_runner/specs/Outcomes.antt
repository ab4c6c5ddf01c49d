-- What a call of `run` owes its sink, and how the writing of it ends.
use Rattle.std.specs.Prelude.{ℕ, ◌≡◌, ◌<◌, ◌⊎◌, List, length, take, Option, Some, ⊤}
use Rattle.std.specs.Io.KnownBytes.{Appends}
use Rattle.abc_io.specs.Devices.{Rose}
use Rattle.abc_runner.specs.declared.command.Command.{Command}
use Rattle.abc_runner.specs.declared.command.Command.TheVariants.{Solo, Net, Print}
use Rattle.abc_runner.specs.declared.status.Status.{Status}
use Rattle.abc_runner.specs.declared.status.Status.TheVariants.{Done, BadWords, Unbuilt, TooMuch, TooLong, Refused, ReadFault, WriteFault, NoMemory}
use Rattle.abc_runner.specs.Statuses.{line_of}

-- the status where a write fault comes after some bytes of what is due: want of memory alone stays
abbrev pub cut_short : Status → ℕ → Status
cut_short NoMemory written = NoMemory
cut_short _ written = WriteFault written

-- The text `due` of the status `whole` was due to a sink. It was written whole, the sink's count of
-- faults is as it was, and the status is that one; or the count rose, a proper front of the text
-- was written, and the status says how much.
abbrev pub Ends : Status → List ℕ → Status → ℕ → ℕ → Option (List ℕ) → Option (List ℕ) → Type 0
Ends whole due status faults faults' told told' =
    ((status ≡ whole) × (faults' ≡ faults) × Appends told told' due)
    ⊎ ((written : ℕ) × (status ≡ cut_short whole written) × Rose faults faults'
    × (written < length due) × Appends told told' (take written due))

-- the line of a refusal was due
abbrev pub EndsAs : Status → Status → ℕ → ℕ → Option (List ℕ) → Option (List ℕ) → Type 0
EndsAs refusal = Ends refusal (line_of refusal)

-- a refusal whose line the sink has gained whole
abbrev pub IsRefusal : Status → Type 0
IsRefusal BadWords = ⊤
IsRefusal Unbuilt = ⊤
IsRefusal (TooMuch limit components) = ⊤
IsRefusal TooLong = ⊤
IsRefusal (Refused place c) = ⊤
IsRefusal ReadFault = ⊤
IsRefusal _ = ⊥

-- the statuses of a call that read a text whole and whose devices didn't fail
abbrev pub IsTextStatus : Status → Type 0
IsTextStatus Done = ⊤
IsTextStatus (TooMuch limit components) = ⊤
IsTextStatus (Refused place c) = ⊤
IsTextStatus NoMemory = ⊤
IsTextStatus _ = ⊥

-- the statuses that come of a text that was read whole
abbrev pub IsOfWholeText : Status → Type 0
IsOfWholeText Done = ⊤
IsOfWholeText (TooMuch limit components) = ⊤
IsOfWholeText (Refused place c) = ⊤
IsOfWholeText _ = ⊥

-- the statuses under which the sink may have failed
abbrev pub IsCut : Status → Type 0
IsCut (WriteFault written) = ⊤
IsCut NoMemory = ⊤
IsCut _ = ⊥

-- the statuses of a call that has run a network
abbrev pub IsAfterRun : Status → Type 0
IsAfterRun Done = ⊤
IsAfterRun (WriteFault written) = ⊤
IsAfterRun _ = ⊥

-- a fact of the bytes that were written before a write fault
abbrev pub IfWriteFault : Status → (ℕ → Type 0) → Type 0
IfWriteFault (WriteFault written) P = P written
IfWriteFault _ P = ⊤

-- a command that reads the source
abbrev pub ReadsText : Option Command → Type 0
ReadsText (Some (Solo limit pick)) = ⊤
ReadsText (Some (Net shape limit nodes workers pick)) = ⊤
ReadsText (Some Print) = ⊤
ReadsText _ = ⊥
