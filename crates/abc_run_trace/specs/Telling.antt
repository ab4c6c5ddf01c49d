-- What the lines of a run's trace say of its steps and of the environments that it ends with.
use Rattle.std.specs.Prelude.{◌≡◌, ℕ, List, [], ◌∷◌, Option, Some, None}
use Rattle.std.specs.List.{AllZip}
use Rattle.abc_pred.specs.Maps.{Entries}
use Rattle.abc_pred.specs.Standing.{pred_of}
use Rattle.abc_term.specs.Speaking.{Label}
use Rattle.abc_term.specs.declared.terms.Component.{Component}
use Rattle.abc_term.specs.declared.terms.Program.{Program}
use Rattle.abc_steps.specs.Rows.{Row}
use Rattle.abc_system.specs.declared.row.StepRow.{StepRow}
use Rattle.abc_system.specs.Systems.{row_of}
use Rattle.abc_trace.specs.declared.trace.Said.{Said}
use Rattle.abc_trace.specs.declared.trace.Line.{Line}
use Rattle.abc_trace.specs.declared.trace.EnvLine.{EnvLine}
use Rattle.abc_run_text.specs.TextOf.{name_at, hearers}

-- This was said at the place with the label, and these heard it.
pub record TellsSaid (p : Program) (k : ℕ) (l : Label) (hs : List (ℕ × ℕ)) (s : Said) : Type 0 where
  pub place : s.place ≡ k
  pub values : s.values ≡ l.values
  pub pred : pred_of s.pred ≡ l.pred
  pub heard : s.heard ≡ hearers p hs

-- Something was said where the step says something, and nothing where it is empty.
abbrev pub TellsTail : Program → Option (ℕ × Label) → List (ℕ × ℕ) → Option Said → Type 0
TellsTail p None heard None = Unit {0}
TellsTail p (Some s) heard (Some said) = TellsSaid p s.0 s.1 heard said
TellsTail p None heard (Some said) = ⊥
TellsTail p (Some s) heard None = ⊥

-- The line has the sender of the row, and tells what it said.
pub record TellsRow (p : Program) (r : Row) (l : Line) : Type 0 where
  pub sender : l.sender ≡ name_at p r.sender
  pub said : TellsTail p r.spoke r.heard l.said

-- Each line tells its step, in order.
abbrev pub TellEach : Program → List StepRow → List Line → Type 0
TellEach p rows lines = AllZip (λ r l. TellsRow p (row_of r) l) rows lines

-- The line of each component's environment, in the program's order.
abbrev pub finals_of : List Component → List Entries → List EnvLine
finals_of (C ∷ Cs) (env ∷ envs) = record { component = C.name; entries = env } ∷ finals_of Cs envs
finals_of _ _ = []
