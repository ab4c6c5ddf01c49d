-- What the words and the source give, before a byte is written: a table by the command, by what was
-- read, by the text, and by the command again. Want of memory is free.
use Rattle.std.specs.Prelude.{ℕ, ◌≡◌, ◌*◌, ◌<◌, ◌≤◌, List, length, Option, Some, None, ⊤}
use Rattle.std.specs.Io.KnownBytes.{IsAtEnd}
use Rattle.abc_io.specs.Devices.{Rose}
use Rattle.abc_io.specs.Whole.{HasRead}
use Rattle.abc_text.specs.declared.lexical.Token.{Token}
use Rattle.abc_term.specs.declared.terms.Program.{Program}
use Rattle.abc_moves.specs.declared.label.Label.{Label}
use Rattle.abc_grammar.specs.Accepted.{IsAccepted, IsRefused}
use Rattle.abc_printed.specs.Printed.{program_text}
use Rattle.abc_net.specs.declared.record.Record.{Record}
use Rattle.abc_run_text.specs.SoloTexts.{IsSoloText}
use Rattle.abc_record_text.specs.RecordTexts.{IsRecordText}
use Rattle.abc_runner.specs.declared.command.Command.{Command}
use Rattle.abc_runner.specs.declared.command.Command.TheVariants.{Solo, Net, Print, Other}
use Rattle.abc_runner.specs.declared.status.Status.{Status}
use Rattle.abc_runner.specs.declared.status.Status.TheVariants.{Done, BadWords, Unbuilt, TooMuch, TooLong, Refused, ReadFault, NoMemory}
use Rattle.abc_runner.specs.declared.answer.Answer.{Answer}
use Rattle.abc_runner.specs.declared.answer.Answer.TheVariants.{Text, Trace, Refusal, Line}
use Rattle.abc_runner.specs.declared.limits.TheConstants.{MOST_SOURCE, MOST_PRODUCT}
use Rattle.abc_runner.specs.Statuses.{line_of, fixed_line_of}
use Rattle.abc_runner.specs.Networks.{IsNetworkRun}

-- the status of an answer that is written whole
abbrev pub whole_of : Answer → Status
whole_of (Text text) = Done
whole_of (Trace text ran) = Done
whole_of (Refusal status) = status
whole_of (Line status line) = status

-- what is due to the sink
abbrev pub due_of : Answer → List ℕ
due_of (Text text) = text
due_of (Trace text ran) = text
due_of (Refusal status) = fixed_line_of status
due_of (Line status line) = line

-- what ran, with an answer that is the trace of it
abbrev pub ran_of : Answer → Option (Record Label)
ran_of (Trace text ran) = Some ran
ran_of _ = None

-- ---- of an accepted program
-- The limit of a run is too much for the program: limit times components is above the bound.
abbrev pub IsTooMuchFor : Program → ℕ → ℕ → ℕ → Type 0
IsTooMuchFor p limit most components =
    (most ≡ limit) × (components ≡ length p.components)
    × (MOST_PRODUCT < limit * length p.components)

abbrev pub IsTooMuch : Command → Program → ℕ → ℕ → Type 0
IsTooMuch (Solo limit pick) p most components = IsTooMuchFor p limit most components
IsTooMuch (Net shape limit nodes workers pick) p most components =
    IsTooMuchFor p limit most components
IsTooMuch Print p most components = ⊥
IsTooMuch Other p most components = ⊥

-- What the command prints: the trace of the program's run by the calculus that limit and pick fix,
-- or its canonical text.
abbrev pub Prints : Command → Program → List ℕ → Type 0
Prints (Solo limit pick) p text =
    (limit * length p.components ≤ MOST_PRODUCT) × IsSoloText p limit pick text
Prints (Net shape limit nodes workers pick) p text = ⊥
Prints Print p text = text ≡ program_text p
Prints Other p text = ⊥

-- What a network prints, and what ran: the trace of a record that a run of the program as this
-- network leaves, whatever the number of workers.
abbrev pub IsTraceOf : Command → Program → List ℕ → Record Label → Type 0
IsTraceOf (Net shape limit nodes workers pick) p text ran =
    (limit * length p.components ≤ MOST_PRODUCT) × IsNetworkRun p shape limit nodes pick ran
    × IsRecordText p ran text
IsTraceOf (Solo limit pick) p text ran = ⊥
IsTraceOf Print p text ran = ⊥
IsTraceOf Other p text ran = ⊥

-- ---- of a text
-- the bytes are accepted as a program with this property
abbrev pub IsTextWith : List ℕ → (Program → Type 0) → Type 0
IsTextWith bytes P = (ts : List Token) × (p : Program) × IsAccepted bytes ts p × P p

-- a refusal whose line has numbers, before the line
abbrev pub IsLineFor : Command → List ℕ → Status → Type 0
IsLineFor command bytes (Refused place c) = IsRefused bytes place c
IsLineFor command bytes (TooMuch limit components) =
    IsTextWith bytes (λ p. IsTooMuch command p limit components)
IsLineFor command bytes _ = ⊥

-- The answer to a command that reads a text, from the whole text.
abbrev pub IsOfText : Command → List ℕ → Answer → Type 0
IsOfText command bytes (Text text) = IsTextWith bytes (λ p. Prints command p text)
IsOfText command bytes (Trace text ran) = IsTextWith bytes (λ p. IsTraceOf command p text ran)
IsOfText command bytes (Line status line) = IsLineFor command bytes status × (line ≡ line_of status)
IsOfText command bytes (Refusal NoMemory) = ⊤
IsOfText command bytes (Refusal _) = ⊥

-- The answer to such a command, from the program that the text is accepted as.
abbrev pub IsOfProgram : Command → Program → Answer → Type 0
IsOfProgram command p (Text text) = Prints command p text
IsOfProgram command p (Trace text ran) = IsTraceOf command p text ran
IsOfProgram command p (Line (TooMuch limit components) line) =
    IsTooMuch command p limit components × (line ≡ line_of (TooMuch limit components))
IsOfProgram command p (Line _ line) = ⊥
IsOfProgram command p (Refusal NoMemory) = ⊤
IsOfProgram command p (Refusal _) = ⊥

-- the line of this status, or want of memory
abbrev pub IsLineOf : Status → Answer → Type 0
IsLineOf due (Line status line) = (status ≡ due) × (line ≡ line_of due)
IsLineOf due (Refusal NoMemory) = ⊤
IsLineOf due _ = ⊥

-- a text of this property, or want of memory
abbrev pub IsTextSuch : (List ℕ → Type 0) → Answer → Type 0
IsTextSuch P (Text text) = P text
IsTextSuch P (Refusal NoMemory) = ⊤
IsTextSuch P _ = ⊥

-- a trace with what ran, of this property, or want of memory
abbrev pub IsTraceSuch : (List ℕ → Record Label → Type 0) → Answer → Type 0
IsTraceSuch P (Trace text ran) = P text ran
IsTraceSuch P (Refusal NoMemory) = ⊤
IsTraceSuch P _ = ⊥

-- ---- of what was read
-- The answer after these bytes were read of a source: a fault of the source only where its count
-- rose, and with all other answers the count is as it was; too long exactly where more bytes were
-- read than a source may have; all else only where the source was read to its end, or memory ran
-- out.
abbrev pub IsAfter : Command → Answer → ℕ → ℕ → Option (List ℕ) → List ℕ → Type 0
IsAfter command (Refusal ReadFault) faults faults' left' read =
    (length read ≤ MOST_SOURCE) × Rose faults faults'
IsAfter command (Refusal TooLong) faults faults' left' read =
    (MOST_SOURCE < length read) × (faults' ≡ faults)
IsAfter command (Refusal NoMemory) faults faults' left' read =
    (length read ≤ MOST_SOURCE) × (faults' ≡ faults)
IsAfter command (Refusal _) faults faults' left' read = ⊥
IsAfter command (Text text) faults faults' left' read =
    (length read ≤ MOST_SOURCE) × (faults' ≡ faults) × IsAtEnd left'
    × IsOfText command read (Text text)
IsAfter command (Trace text ran) faults faults' left' read =
    (length read ≤ MOST_SOURCE) × (faults' ≡ faults) × IsAtEnd left'
    × IsOfText command read (Trace text ran)
IsAfter command (Line status line) faults faults' left' read =
    (length read ≤ MOST_SOURCE) × (faults' ≡ faults) × IsAtEnd left'
    × IsOfText command read (Line status line)

-- the answer to a command that reads, from what the source gave
abbrev pub IsReadAnswer :
    Command → Answer → ℕ → ℕ → Option (List ℕ) → Option (List ℕ) → Type 0
IsReadAnswer command answer faults faults' left left' =
    HasRead left left' (IsAfter command answer faults faults' left')

-- ---- of the words
-- the answer to a command, or to words that are none, whose source is not read
abbrev pub IsAnswer :
    Option Command → Answer → ℕ → ℕ → Option (List ℕ) → Option (List ℕ) → Type 0
IsAnswer None answer faults faults' left left' =
    (answer ≡ Refusal BadWords) × (faults' ≡ faults)
IsAnswer (Some Other) answer faults faults' left left' =
    (answer ≡ Refusal Unbuilt) × (faults' ≡ faults)
IsAnswer (Some (Solo limit pick)) answer faults faults' left left' =
    IsReadAnswer (Solo limit pick) answer faults faults' left left'
IsAnswer (Some (Net shape limit nodes workers pick)) answer faults faults' left left' =
    IsReadAnswer (Net shape limit nodes workers pick) answer faults faults' left left'
IsAnswer (Some Print) answer faults faults' left left' =
    IsReadAnswer Print answer faults faults' left left'
