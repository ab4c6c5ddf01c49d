-- What the run of a program as a network leaves, and what its trace tells.
use Rattle.std.specs.Prelude.{ℕ, ◌≡◌, ◌⊎◌, ◌*◌, ◌≤◌, List, length, map, Option, Some, ⊤}
use Rattle.std.specs.Io.KnownBytes.{IsAtEnd, Appends}
use Rattle.abc_io.specs.Whole.{HasRead}
use Rattle.abc_packet.specs.declared.choice.Choice.{Choice}
use Rattle.abc_shape.specs.declared.shape.Shape.{Shape}
use Rattle.abc_text.specs.declared.lexical.Token.{Token}
use Rattle.abc_term.specs.Processes as term
use Rattle.abc_term.specs.Standing.{definitions_of, system_of}
use Rattle.abc_term.specs.Systems.{IsSilent}
use Rattle.abc_term.specs.declared.terms.Program.{Program}
use Rattle.abc_moves.specs.declared.label.Label.{Label}
use Rattle.abc_steps.specs.Rows.{Row, choice_of_row, TellRun}
use Rattle.abc_system.specs.Systems.{choice_of}
use Rattle.abc_grammar.specs.Accepted.{IsAccepted}
use Rattle.abc_net.specs.declared.record.Record.{Record}
use Rattle.abc_trace.specs.declared.trace.Head.TheVariants as head
use Rattle.abc_run_text.specs.TextOf.{text_of}
use Rattle.abc_record_text.specs.LegalRecords.{IsLegalFor}
use Rattle.abc_record_text.specs.RecordTexts.{AreChoicesOf, handled_in}
use Rattle.abc_record_run.specs.RunRecords.{IsOfNetwork}
use Rattle.abc_runner.specs.declared.command.Command.{Command}
use Rattle.abc_runner.specs.declared.command.Command.TheVariants.{Net}
use Rattle.abc_runner.specs.declared.status.Status.{Status}
use Rattle.abc_runner.specs.declared.limits.TheConstants.{MOST_PRODUCT}
use Rattle.abc_runner.specs.Outcomes.{IsAfterRun}

-- The record is what such a run leaves: a legal record of the program, and one of this network.
pub record IsNetworkRun (p : Program) (shape : Shape) (limit nodes pick : ℕ)
    (ran : Record Label) : Type 0 where
  pub legal : IsLegalFor p ran
  pub network : IsOfNetwork shape (length p.components) nodes limit pick ran

-- ---- what ran
-- The bytes are accepted as this program, whose size is within the bound, and the record is what a
-- run of it as this network leaves.
pub record HasRun (p : Program) (shape : Shape) (limit nodes pick : ℕ) (bytes : List ℕ)
    (ran : Record Label) : Type 0 where
  pub tokens : List Token
  pub accepted : IsAccepted bytes tokens p
  pub small : limit * length p.components ≤ MOST_PRODUCT
  pub run : IsNetworkRun p shape limit nodes pick ran

-- What a record that a call hands over tells: the command is that of a network, the status is one
-- of a call that has run it, the source was read to its end, and the record is what such a run of
-- the whole text leaves.
abbrev pub HandsOver :
    Option Command → Status → Option (List ℕ) → Option (List ℕ) → Record Label → Type 0
HandsOver (Some (Net shape limit nodes workers pick)) status left left' ran =
    IsAfterRun status × IsAtEnd left'
    × HasRead left left' (λ bytes. (p : Program) × HasRun p shape limit nodes pick bytes ran)
HandsOver _ status left left' ran = ⊥

-- ---- what is told
-- The bytes are accepted as a program, the record is a legal one of it and of this network, and the
-- text is the trace of a run of the calculus from the program's first system: the run of the
-- choices that the record's numbers are, which ends at the limit, or where no component can speak.
pub record TellsNetworkRun (shape : Shape) (limit nodes pick : ℕ) (bytes : List ℕ)
    (ran : Record Label) (text : List ℕ) : Type 0 where
  pub tokens : List Token
  pub program : Program
  pub accepted : IsAccepted bytes tokens program
  pub small : limit * length program.components ≤ MOST_PRODUCT
  pub legal : IsLegalFor program ran
  pub network : IsOfNetwork shape (length program.components) nodes limit pick ran
  pub choices : List Choice
  pub numbering : AreChoicesOf ran choices
  pub rows : List Row
  pub last : term.System
  pub run : TellRun (definitions_of program.definitions) (system_of program) rows last
  pub chosen : map choice_of_row rows ≡ map choice_of choices
  pub ends : (length rows ≡ limit) ⊎ IsSilent (definitions_of program.definitions) last
  pub trace : text ≡ text_of program (head.Net shape limit nodes pick) rows last (handled_in ran)

-- For the command of a network: the source was read to its end, a record was left, and the sink
-- has gained such a text of it.
abbrev pub TellsNetwork :
    Option Command → Option (Record Label) → Option (List ℕ) → Option (List ℕ) →
    Option (List ℕ) → Option (List ℕ) → Type 0
TellsNetwork (Some (Net shape limit nodes workers pick)) ran left left' told told' =
    IsAtEnd left' × HasRead left left' (λ bytes.
    (kept : Record Label) × (ran ≡ Some kept) × (text : List ℕ) × Appends told told' text
    × TellsNetworkRun shape limit nodes pick bytes kept text)
TellsNetwork _ ran left left' told told' = ⊤
