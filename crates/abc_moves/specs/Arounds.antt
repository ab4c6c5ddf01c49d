-- The moves of a process as a walk meets it: with what stands around it, and calls unfolded to a depth.
use Rattle.std.specs.Prelude.{ℕ, IsTrue}
use Rattle.abc_pred.specs.Maps.{Entries}
use Rattle.abc_term.specs.Processes.{Process, Definitions}
use Rattle.abc_term.specs.Standing.{definitions_of}
use Rattle.abc_term.specs.Speaking.{Label}
use Rattle.abc_term.specs.Hearing.{is_meant}
use Rattle.abc_moves.specs.declared.around.Around.{Around}
use Rattle.abc_moves.specs.Walks.{outs_at, ins_at, SaysAt, TakesAt}

abbrev pub definitions_around : Around → Definitions
definitions_around at = definitions_of at.bodies.definitions.now

abbrev pub outs_here : Around → ℕ → Process → ℕ
outs_here at depth P = outs_at depth (definitions_around at) at.env.now P

abbrev pub ins_here : Around → Label → ℕ → Process → ℕ
ins_here at l depth P = ins_at depth (definitions_around at) l at.env.now at.interface.now P

abbrev pub SaysHere : Around → ℕ → Process → ℕ → Label → Entries → Process → Type 0
SaysHere at depth P k l e R = SaysAt depth (definitions_around at) at.env.now at.interface.now P k l e R

abbrev pub TakesHere : Around → Label → ℕ → Process → ℕ → Entries → Process → Type 0
TakesHere at l depth P k e R = TakesAt depth (definitions_around at) l at.env.now at.interface.now P k e R

-- The component is one of those for which the message is meant.
abbrev pub IsMeantHere : Around → Label → Type 0
IsMeantHere at l = IsTrue (is_meant l at.env.now at.interface.now)
