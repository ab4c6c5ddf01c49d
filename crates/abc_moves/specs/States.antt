-- What of a component changes as it moves.
use Rattle.std.specs.Prelude.{◌≡◌, List}
use Rattle.abc_pred.specs.declared.names.Name.{Name}
use Rattle.abc_term.specs.Processes as term
use Rattle.abc_term.specs.Speaking.{outs}
use Rattle.abc_moves.specs.declared.state.State.{State}
use Rattle.abc_moves.specs.Trees.{parts}

-- The component with this interface in that state.
abbrev pub component_at : State → List Name → term.Component
component_at s interface = parts s.env interface s.tree

-- The number that is kept is the number of enabled outputs.
abbrev pub CountsOutputs : term.Definitions → State → List Name → Type 0
CountsOutputs defs s interface = s.outputs ≡ outs defs (component_at s interface)
