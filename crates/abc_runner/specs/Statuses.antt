-- What each status means to the caller of the program: its exit status, and the line that it
-- writes.
use Rattle.std.specs.Prelude.{ℕ, List, [], ◌∷◌, ◌++◌, codes, decimal}
use Rattle.abc_cause.specs.declared.Cause.{Cause}
use Rattle.abc_cause.specs.declared.Cause.TheVariants as cause
use Rattle.abc_cause.specs.declared.CheckCause.{CheckCause}
use Rattle.abc_cause.specs.declared.CheckCause.TheVariants as check
use Rattle.abc_runner.specs.declared.status.Status.{Status}
use Rattle.abc_runner.specs.declared.status.Status.TheVariants.{Done, BadWords, Unbuilt, TooMuch, TooLong, Refused, ReadFault, WriteFault, NoMemory}

abbrev pub code_of : Status → ℕ
code_of Done = 0
code_of BadWords = 2
code_of (TooMuch limit components) = 2
code_of TooLong = 3
code_of (Refused place c) = 3
code_of ReadFault = 4
code_of (WriteFault written) = 5
code_of NoMemory = 6
code_of Unbuilt = 7

-- a line ends with a line feed
abbrev pub line : List ℕ → List ℕ
line text = text ++ 10 ∷ []

-- a cause by its name, a check's by its own
abbrev pub check_word : CheckCause → List ℕ
check_word check.DoubleName = codes "DoubleName"
check_word check.UnknownName = codes "UnknownName"
check_word check.OpenVariable = codes "OpenVariable"
check_word check.Unguarded = codes "Unguarded"
check_word check.ParallelCycle = codes "ParallelCycle"
check_word check.TooWide = codes "TooWide"
check_word check.TooManyMoves = codes "TooManyMoves"
check_word check.NoComponent = codes "NoComponent"
check_word check.TooManyComponents = codes "TooManyComponents"

abbrev pub cause_word : Cause → List ℕ
cause_word cause.BadByte = codes "BadByte"
cause_word cause.BadText = codes "BadText"
cause_word cause.LongText = codes "LongText"
cause_word cause.LongName = codes "LongName"
cause_word cause.WideNumber = codes "WideNumber"
cause_word cause.Syntax = codes "Syntax"
cause_word cause.TooDeep = codes "TooDeep"
cause_word cause.TooLarge = codes "TooLarge"
cause_word cause.LongTuple = codes "LongTuple"
cause_word cause.LongSet = codes "LongSet"
cause_word (cause.Check c) = check_word c

abbrev pub refused_line : ℕ → Cause → List ℕ
refused_line place c =
    line (codes "abc: refused at " ++ decimal place ++ codes ": " ++ cause_word c)

abbrev pub too_much_line : ℕ → ℕ → List ℕ
too_much_line limit components =
    line (codes "abc: too much: " ++ decimal limit ++ codes " x " ++ decimal components)

-- the line of a status whose line has no numbers; nothing is due after Done and WriteFault
abbrev pub fixed_line_of : Status → List ℕ
fixed_line_of BadWords = line (codes "abc: bad words")
fixed_line_of Unbuilt = line (codes "abc: not built yet")
fixed_line_of TooLong = line (codes "abc: source too long")
fixed_line_of ReadFault = line (codes "abc: read fault")
fixed_line_of NoMemory = line (codes "abc: no memory")
fixed_line_of _ = []

-- the line of a status
abbrev pub line_of : Status → List ℕ
line_of (TooMuch limit components) = too_much_line limit components
line_of (Refused place c) = refused_line place c
line_of status = fixed_line_of status
