-- What a component becomes where a move is put in place.
use Rattle.std.specs.Prelude.{◌⊎◌, ℕ, List, Option}
use Rattle.abc_pred.specs.declared.names.Name.{Name}
use Rattle.abc_term.specs.Processes as term
use Rattle.abc_term.specs.Speaking.{Label, Speaks}
use Rattle.abc_term.specs.Hearing.{Hears}
use Rattle.abc_moves.specs.declared.live.Live.{Live}
use Rattle.abc_moves.specs.declared.made.Move.{Move}
use Rattle.abc_moves.specs.declared.state.State.{State}
use Rattle.abc_moves.specs.Lives.{component_in, definitions_in}
use Rattle.abc_moves.specs.Trees.{parts_moved}

-- A component in a state, after the move.
abbrev pub moved_at : State → List Name → Move → term.Component
moved_at s interface m = parts_moved s.env interface s.tree m

abbrev pub moved : Live → Move → term.Component
moved l m = moved_at l.state l.fixed.interface m

-- The move is one of the component's: it speaks by it, or hears.
abbrev pub IsMoveOf : Live → Move → Type 0
IsMoveOf live m =
    let defs = definitions_in live in let C = component_in live in
    ((place : ℕ) × (l : Label) × Speaks defs C place l (moved live m))
    ⊎ ((l : Label) × (place : Option ℕ) × Hears defs C l place (moved live m))
