-- The trace of a run, and of which runs there is one.
use Rattle.std.specs.Prelude.{◌≡◌, ℕ, List, All, Option, Some, None}
use Rattle.abc_term.specs.Processes as term
use Rattle.abc_term.specs.Speaking.{Label}
use Rattle.abc_term.specs.Standing.{definitions_of, system_of}
use Rattle.abc_term.specs.declared.terms.Program.{Program}
use Rattle.abc_steps.specs.Rows.{Row, TellRun}
use Rattle.abc_system.specs.declared.run.Run.{Run}
use Rattle.abc_system.specs.Runs.{rows_of}
use Rattle.abc_trace.specs.declared.trace.Head.{Head}
use Rattle.abc_trace.specs.declared.trace.Trace.{Trace}
use Rattle.abc_trace.specs.Texts.{trace_text}
use Rattle.abc_trace.specs.WellFormed.{IsNet, IsWellFormed}
use Rattle.abc_run_text.specs.TextOf.{text_of}

-- A step fits a head: only in a network it may be empty.
abbrev pub FitsHead : Head → Option (ℕ × Label) → Type 0
FitsHead head None = IsNet head
FitsHead head (Some s) = Unit {0}

-- So does each of these rows.
abbrev pub AllFitHead : Head → List Row → Type 0
AllFitHead head rows = All (λ r. FitsHead head r.spoke) rows

-- The trace is well formed, its names are the program's, and its text is that of the run, which
-- ends in the last system.
pub record IsTraceOf (p : Program) (head : Head) (r : Run) (handled : List ℕ) (t : Trace) :
    Type 0 where
  pub formed : IsWellFormed t
  pub names : t.names ≡ p.names
  pub last : term.System
  pub told : TellRun (definitions_of p.definitions) (system_of p) (rows_of r) last
  pub written : trace_text t ≡ text_of p head (rows_of r) last handled
