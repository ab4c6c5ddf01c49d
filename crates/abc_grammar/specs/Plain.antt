-- A program as plain terms, as it is written: boxes and allocators are gone.
use Rattle.std.specs.Prelude.{List, map}
use Rattle.abc_value.specs.declared.value.Value.{Value}
use Rattle.abc_pred.specs.declared.names.Name.{Name}
use Rattle.abc_term.specs.Processes.{Process, Definitions}
use Rattle.abc_term.specs.Standing.{process_of, definitions_of}
use Rattle.abc_term.specs.declared.terms.Component.{Component}
use Rattle.abc_term.specs.declared.terms.Program.{Program}

-- a component: its attributes with their first values, the attributes that it shows, and its process
pub record PlainComponent : Type 0 where
  pub name : Name
  pub initial : List (Name × Value)
  pub show : List Name
  pub run : Process

pub record PlainProgram : Type 0 where
  pub definitions : Definitions
  pub components : List PlainComponent

-- what a program's value stands for
abbrev pub plain_component : Component → PlainComponent
plain_component C = record { name = C.name; initial = C.initial; show = C.show; run = process_of C.run }

abbrev pub plain_program : Program → PlainProgram
plain_program p = record { definitions = definitions_of p.definitions; components = map plain_component p.components }
