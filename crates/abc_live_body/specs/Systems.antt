-- Systems of bodies, and the systems of the calculus that they are.
use Rattle.std.specs.Prelude.{List, map}
use Rattle.abc_term.specs.Processes as term
use Rattle.abc_term.specs.Systems as systems
use Rattle.abc_packet.specs.declared.choice.Choice.{Choice}
use Rattle.abc_live_body.specs.Running.{RunningComponent}

-- The components as bodies under these definitions.
abbrev pub bodies_under : term.Definitions → term.System → List RunningComponent
bodies_under defs S = map (λ C. record { definitions = defs; component = C }) S

-- A choice as the calculus has it.
abbrev pub choice_of : Choice → systems.Choice
choice_of c = record { sender = c.sender; place = c.place; heard = c.heard }
