-- What definitions and components stand for as they are written.
use Rattle.std.specs.Prelude.{map}
use Rattle.abc_pred.specs.declared.names.Name.{Name}
use Rattle.abc_term.specs.Processes.{Process}
use Rattle.abc_term.specs.Standing.{process_of, definitions_of}
use Rattle.abc_term.specs.declared.terms.Definition.{Definition}
use Rattle.abc_grammar.specs.Plain.{PlainProgram, plain_component}
use Rattle.abc_parse.specs.declared.program.Items.{Items}

abbrev pub plain_definition : Definition → Name × Process
plain_definition d = (d.name, process_of d.body)

abbrev pub plain_items : Items → PlainProgram
plain_items x = record { definitions = definitions_of x.definitions; components = map plain_component x.components }
