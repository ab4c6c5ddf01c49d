-- What the loops over definitions, components, attributes and names do, by the next token.
use Rattle.std.proofs.Common.{◌≡◌, List}
use Rattle.abc_value.specs.declared.value.Value.{Value}
use Rattle.abc_pred.specs.declared.names.Name.{Name}
use Rattle.abc_term.specs.Processes.{Process}
use Rattle.abc_cause.specs.declared.Cause.TheVariants.{Syntax}
use Rattle.abc_grammar.specs.Plain.{PlainComponent}
use Rattle.abc_grammar.specs.Programs.{IsDefinition, IsInitial, IsComponent}
use Rattle.abc_reading.specs.Reading.{mapped, join, joined}
use Rattle.abc_reading.proofs.Chain.{Leaves, reads_leaves, joined-step}
use Rattle.abc_readers.specs.Operands.{Tokens, alone, commas}
use Rattle.abc_readers.specs.Combining.{one, IsOne, repeat, repeated_on}
use Rattle.abc_readers.specs.Processes.{a_name}
use Rattle.abc_readers.specs.Programs.{starts_definition, definition, starts_initial, initial, starts_component, component}
use Rattle.abc_readers.proofs.OperandReads.{Alone, alone_reads}
use Rattle.abc_readers.proofs.Combined.{repeated-step}
use Rattle.abc_readers.proofs.ProgramReads.{definition_reads, definition_starts, initial_reads, initial_starts, component_reads, component_starts, one_name_reads}

pub definitions-step : (items : List (Name × Process)) (ts : Tokens) →
    repeated_on starts_definition definition items ts ≡ repeat starts_definition definition (repeated_on starts_definition definition) items ts
definitions-step = repeated-step IsDefinition starts_definition definition definition_reads definition_starts

pub initials-step : (items : List (Name × Value)) (ts : Tokens) →
    repeated_on starts_initial initial items ts ≡ repeat starts_initial initial (repeated_on starts_initial initial) items ts
initials-step = repeated-step IsInitial starts_initial initial initial_reads initial_starts

pub components-step : (items : List PlainComponent) (ts : Tokens) →
    repeated_on starts_component component items ts ≡ repeat starts_component component (repeated_on starts_component component) items ts
components-step = repeated-step IsComponent starts_component component component_reads component_starts

name_leaves : Leaves (λ us. mapped alone (one a_name us))
name_leaves = reads_leaves (Alone (IsOne a_name) (one a_name) one_name_reads) (λ us. mapped alone (one a_name us)) (alone_reads (IsOne a_name) (one a_name) one_name_reads)

pub names-step : (a : List Name) (ts : Tokens) → joined Syntax (λ us. mapped alone (one a_name us)) commas a ts
    ≡ join (λ us. mapped alone (one a_name us)) commas (joined Syntax (λ us. mapped alone (one a_name us)) commas) a ts
names-step = joined-step Syntax (λ us. mapped alone (one a_name us)) commas name_leaves

pub ruleset definition_steps = (definitions-step)

pub ruleset initial_steps = (initials-step)

pub ruleset component_steps = (components-step)

pub ruleset name_steps = (names-step)
