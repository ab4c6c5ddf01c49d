-- The trace of a record.
use Rattle.std.specs.Prelude.{◌≡◌, ◌⊎◌, ◌++◌, ℕ, List, length, map, drop}
use Rattle.abc_packet.specs.declared.choice.Choice.{Choice}
use Rattle.abc_term.specs.Processes as term
use Rattle.abc_term.specs.Systems.{Runs, IsSilent}
use Rattle.abc_term.specs.Standing.{definitions_of, system_of}
use Rattle.abc_term.specs.declared.terms.Program.{Program}
use Rattle.abc_moves.specs.declared.label.Label.{Label}
use Rattle.abc_steps.specs.Rows.{Row, choice_of_row, TellRun}
use Rattle.abc_system.specs.declared.system.System.{System}
use Rattle.abc_system.specs.declared.row.StepRow.{StepRow}
use Rattle.abc_system.specs.Systems.{choice_of, row_of}
use Rattle.abc_system.specs.Running.{system_in, definitions_in}
use Rattle.abc_logs.specs.Choices.{AreChoices, AreNumbered}
use Rattle.abc_history.specs.Histories.{arrivals_in}
use Rattle.abc_net.specs.declared.record.Record.{Record}
use Rattle.abc_net.specs.Records.{agents_logs, logs_of}
use Rattle.abc_trace.specs.declared.trace.Head.{Head}
use Rattle.abc_trace.specs.declared.trace.Head.TheVariants.{Net}
use Rattle.abc_trace.specs.Texts.{numbered}
use Rattle.abc_run_text.specs.TextOf.{row_text, text_of}

-- The first line of a record's trace,
abbrev pub head_in : {L : Type 0} → Record L → Head
head_in ran = Net ran.shape ran.limit ran.nodes ran.pick

-- and how many packets each of its nodes handled, in order.
abbrev pub handled_in : {L : Type 0} → Record L → List ℕ
handled_in ran = map arrivals_in (drop ran.agents (logs_of ran))

-- These are the choices of a record's numbers, one for each of them, in order.
pub record AreChoicesOf {L : Type 0} (ran : Record L) (choices : List Choice) : Type 0 where
  pub numbered : AreNumbered (agents_logs ran) (length choices)
  pub told : AreChoices (agents_logs ran) 1 choices

-- The text is the trace of the run of the calculus from the program's first system that the
-- record's choices are, under the head of the record and with what its nodes handled. It ends at the
-- limit, or where no component can speak.
pub record IsRecordText (p : Program) (ran : Record Label) (text : List ℕ) : Type 0 where
  pub choices : List Choice
  pub numbering : AreChoicesOf ran choices
  pub rows : List Row
  pub last : term.System
  pub run : TellRun (definitions_of p.definitions) (system_of p) rows last
  pub chosen : map choice_of_row rows ≡ map choice_of choices
  pub ends : (length rows ≡ ran.limit) ⊎ IsSilent (definitions_of p.definitions) last
  pub written : text ≡ text_of p (head_in ran) rows last (handled_in ran)

-- ---- as it is made
-- These choices are a run from a system.
abbrev pub CanRun : term.Definitions → term.System → List Choice → Type 0
CanRun defs S choices = (T : term.System) × Runs defs S (map choice_of choices) T

-- The steps of these choices lead from the system before to the one now, and their lines are added
-- to the text.
pub record WritesRun (p : Program) (choices : List Choice) (before now : System)
    (text text' : List ℕ) : Type 0 where
  pub steps : List StepRow
  pub run : TellRun (definitions_in before) (system_in before) (map row_of steps) (system_in now)
  pub chosen : map choice_of_row (map row_of steps) ≡ map choice_of choices
  pub program : definitions_in now ≡ definitions_in before
  pub written : text' ≡ text ++ numbered (row_text p) 1 (map row_of steps)
