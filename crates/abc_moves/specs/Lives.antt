-- The component and the program that a live component stands for.
use Rattle.std.specs.Prelude.{◌≡◌, ℕ, List, Some, slice_get}
use Rattle.abc_pred.specs.Maps.{ListsTheSame}
use Rattle.abc_term.specs.declared.terms.Program.{Program}
use Rattle.abc_term.specs.declared.terms.Component.{Component}
use Rattle.abc_term.specs.declared.terms.Definition.{Definition}
use Rattle.abc_term.specs.Standing.{definitions_of, component_of}
use Rattle.abc_term.specs.Speaking.{Label, Speaks}
use Rattle.abc_term.specs.Processes as term
use Rattle.abc_moves.specs.declared.live.Live.{Live}
use Rattle.abc_moves.specs.States.{component_at}

abbrev pub component_in : Live → term.Component
component_in l = component_at l.state l.fixed.interface

-- The definitions under which it runs, as the program has them,
abbrev pub program_in : Live → List Definition
program_in l = l.definitions.now

-- and as the rules do.
abbrev pub definitions_in : Live → term.Definitions
definitions_in l = definitions_of (program_in l)

-- The component of this number as the program begins with it. Of its interface it matters only what it lists.
pub record BeginsAs (first now : term.Component) : Type 0 where
  pub env : now.env ≡ first.env
  pub interface : ListsTheSame now.interface first.interface
  pub process : now.process ≡ first.process

abbrev pub StartsAs : Program → ℕ → term.Component → Type 0
StartsAs program i now = (C : Component) → slice_get program.components i ≡ Some C → BeginsAs (component_of C) now

-- These are components of the program, in its order, as it begins with them.
abbrev pub StartAs : Program → List Live → Type 0
StartAs program lives =
    (i : ℕ) (l : Live) → slice_get lives i ≡ Some l →
    StartsAs program i (component_in l) × (definitions_in l ≡ definitions_of program.definitions)

-- The output at this place has this label.
abbrev pub IsSaid : term.Definitions → term.Component → ℕ → Label → Type 0
IsSaid defs C place l = (C' : term.Component) × Speaks defs C place l C'
