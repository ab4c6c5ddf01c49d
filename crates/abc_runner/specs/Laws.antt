-- Laws of answers: there is one for each text, and what the answer of `solo` tells.
use Rattle.std.specs.Prelude.{ℕ, ◌≡◌, ◌≢◌, ◌⊎◌, ◌*◌, ◌≤◌, List, [], length, map, Option, Some}
use Rattle.std.specs.Io.KnownBytes.{IsAtEnd, Appends}
use Rattle.abc_io.specs.Devices.{Rose}
use Rattle.abc_io.specs.Whole.{HasRead}
use Rattle.abc_text.specs.declared.lexical.Token.{Token}
use Rattle.abc_term.specs.Processes as term
use Rattle.abc_term.specs.Standing.{definitions_of, system_of}
use Rattle.abc_term.specs.Systems.{Choice, IsSilent}
use Rattle.abc_term.specs.declared.terms.Program.{Program}
use Rattle.abc_steps.specs.Turns.{RunsByTurns}
use Rattle.abc_steps.specs.Rows.{Row, choice_of_row, TellRun}
use Rattle.abc_grammar.specs.Accepted.{IsAccepted}
use Rattle.abc_trace.specs.declared.trace.Head.TheVariants as head
use Rattle.abc_run_text.specs.TextOf.{text_of}
use Rattle.abc_runner.specs.declared.command.Command.{Command}
use Rattle.abc_runner.specs.declared.command.Command.TheVariants.{Solo}
use Rattle.abc_runner.specs.declared.status.Status.TheVariants.{Done, NoMemory}
use Rattle.abc_runner.specs.declared.answer.Answer.{Answer}
use Rattle.abc_runner.specs.declared.answer.Answer.TheVariants.{Text, Trace, Refusal}
use Rattle.abc_runner.specs.declared.limits.TheConstants.{MOST_PRODUCT}
use Rattle.abc_runner.specs.Answers.{whole_of, due_of, IsOfText, IsAnswer}
use Rattle.abc_runner.specs.Outcomes.{Ends}

-- ---- one answer
-- Two answers are one: they are equal, and two traces of what ran are where the same ran.
abbrev pub AreOne : Answer → Answer → Type 0
AreOne (Trace text ran) (Trace text' ran') = ran ≡ ran' → text ≡ text'
AreOne a b = a ≡ b

-- Want of memory aside, there is at most one answer to a command and a text: its status, its line
-- and its text. For a network each record that its run can leave has one.
abbrev pub OneOfText : Type 0
OneOfText =
    (command : Command) (bytes : List ℕ) (a b : Answer) →
    IsOfText command bytes a → IsOfText command bytes b →
    a ≢ Refusal NoMemory → b ≢ Refusal NoMemory → AreOne a b

-- So there is to words and a source that told the same bytes in two calls, if it failed in neither
-- of them.
abbrev pub OneAnswer : Type 0
OneAnswer =
    (words : Option Command) (bytes : List ℕ) (a b : Answer)
    (faults faults' others others' : ℕ) (left left' : Option (List ℕ)) →
    ¬ Rose faults faults' → ¬ Rose others others' →
    IsAnswer words a faults faults' (Some bytes) left →
    IsAnswer words b others others' (Some bytes) left' →
    a ≢ Refusal NoMemory → b ≢ Refusal NoMemory → AreOne a b

-- ---- what `solo` tells
-- The bytes are accepted as a program, and the text is the trace of a run of the calculus from its
-- first system: the one and only run that limit and pick fix, which ends at the limit, or before it
-- where no component can speak.
pub record TellsSoloRun (limit pick : ℕ) (bytes text : List ℕ) : Type 0 where
  pub tokens : List Token
  pub program : Program
  pub accepted : IsAccepted bytes tokens program
  pub small : limit * length program.components ≤ MOST_PRODUCT
  pub rows : List Row
  pub last : term.System
  pub run : TellRun (definitions_of program.definitions) (system_of program) rows last
  pub ruled :
      RunsByTurns (definitions_of program.definitions) limit pick (system_of program)
      (map choice_of_row rows) last
  pub only :
      (choices : List Choice) (end : term.System) →
      RunsByTurns (definitions_of program.definitions) limit pick (system_of program) choices end →
      (choices ≡ map choice_of_row rows) × (end ≡ last)
  pub within : length rows ≤ limit
  pub ends : (length rows ≡ limit) ⊎ IsSilent (definitions_of program.definitions) last
  pub trace : text ≡ text_of program (head.Solo limit pick) rows last []

-- What is printed for `solo` tells that run of the whole source.
abbrev pub SoloTells : Type 0
SoloTells =
    (limit pick : ℕ) (text : List ℕ) (faults faults' : ℕ) (left left' : Option (List ℕ)) →
    IsAnswer (Some (Solo limit pick)) (Text text) faults faults' left left' →
    IsAtEnd left' × HasRead left left' (λ bytes. TellsSoloRun limit pick bytes text)

-- Where the status is Done, the sink has gained such a text.
abbrev pub DoneTells : Type 0
DoneTells =
    (limit pick : ℕ) (answer : Answer) (faults faults' : ℕ) (left left' : Option (List ℕ))
    (sunk sunk' : ℕ) (told told' : Option (List ℕ)) →
    IsAnswer (Some (Solo limit pick)) answer faults faults' left left' →
    Ends (whole_of answer) (due_of answer) Done sunk sunk' told told' →
    IsAtEnd left' × HasRead left left' (λ bytes.
    (text : List ℕ) × Appends told told' text × TellsSoloRun limit pick bytes text)
