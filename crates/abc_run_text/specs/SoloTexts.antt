-- The trace of the run by the rule of places.
use Rattle.std.specs.Prelude.{◌≡◌, ◌⊎◌, ◌≤◌, ◌++◌, ℕ, List, [], length, map}
use Rattle.abc_term.specs.Processes as term
use Rattle.abc_term.specs.Standing.{definitions_of, system_of}
use Rattle.abc_term.specs.Systems.{IsSilent}
use Rattle.abc_term.specs.declared.terms.Program.{Program}
use Rattle.abc_steps.specs.Turns.{RunsByTurns}
use Rattle.abc_steps.specs.Rows.{Row, choice_of_row, TellRun, TellTurns}
use Rattle.abc_system.specs.declared.system.System.{System}
use Rattle.abc_system.specs.Running.{system_in, definitions_in}
use Rattle.abc_trace.specs.declared.trace.Head.TheVariants.{Solo}
use Rattle.abc_trace.specs.Texts.{numbered}
use Rattle.abc_run_text.specs.TextOf.{row_text, text_of}

-- The rows tell a run of the calculus from the program's first system, which ends here, and its
-- choices are the run that limit and pick fix.
pub record IsSoloRun (p : Program) (limit pick : ℕ) (rows : List Row)
    (last : term.System) : Type 0 where
  pub told : TellRun (definitions_of p.definitions) (system_of p) rows last
  pub ruled :
      RunsByTurns (definitions_of p.definitions) limit pick (system_of p)
      (map choice_of_row rows) last

-- The text is the trace of that run.
pub record IsSoloText (p : Program) (limit pick : ℕ) (text : List ℕ) : Type 0 where
  pub rows : List Row
  pub last : term.System
  pub run : IsSoloRun p limit pick rows last
  pub written : text ≡ text_of p (Solo limit pick) rows last []

-- ---- as it is made
-- So many steps by the rule of places lead from the system before to the one now, the first at the
-- turn `pick`, and their lines are added to the text.
pub record WritesSteps (p : Program) (pick : ℕ) (before now : System) (made : ℕ)
    (text text' : List ℕ) : Type 0 where
  pub rows : List Row
  pub turns : TellTurns (definitions_in before) pick (system_in before) rows (system_in now)
  pub count : length rows ≡ made
  pub program : definitions_in now ≡ definitions_in before
  pub written : text' ≡ text ++ numbered (row_text p) 1 rows

-- As many as the limit, or none goes on.
abbrev pub EndsSteps : ℕ → System → System → ℕ → Type 0
EndsSteps limit before now made =
    (made ≤ limit) × ((made ≡ limit) ⊎ IsSilent (definitions_in before) (system_in now))
