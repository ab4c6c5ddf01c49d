-- What the types of this crate stand for.
use Rattle.std.specs.Prelude.{◌≡◌, ℕ, Option, Some, None}
use Rattle.abc_term.specs.Speaking as speaking
use Rattle.abc_term.specs.Systems as systems
use Rattle.abc_moves.specs.declared.label.Label.{Label}
use Rattle.abc_moves.specs.Labels.{label_of}
use Rattle.abc_packet.specs.declared.choice.Choice.{Choice}
use Rattle.abc_steps.specs.Rows.{Row}
use Rattle.abc_system.specs.declared.cast.Cast.{Cast}
use Rattle.abc_system.specs.declared.row.StepRow.{StepRow}

-- A choice as the rules have it.
abbrev pub choice_of : Choice → systems.Choice
choice_of c = record { sender = c.sender; place = c.place; heard = c.heard }

abbrev pub said_of : Option (ℕ × Label) → Option (ℕ × speaking.Label)
said_of None = None
said_of (Some s) = Some (s.0, label_of s.1)

-- A row as the definition of runs has it.
abbrev pub row_of : StepRow → Row
row_of r = record { sender = r.sender; spoke = said_of r.spoke; heard = r.heard }

-- The row has the sender, what it said, and who heard.
abbrev pub IsRowOf : Cast → StepRow → Type 0
IsRowOf c r = (r.sender ≡ c.sender) × (r.spoke ≡ Some (c.said.place, c.said.label)) × (r.heard ≡ c.heard)
