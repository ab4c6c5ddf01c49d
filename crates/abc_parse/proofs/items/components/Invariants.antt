use Rattle.std.proofs.Common.{◌≡◌, ◌≤◌, length, map}
use Rattle.abc_readers.specs.Combining.{repeated, repeated_on}
use Rattle.abc_grammar.specs.Plain.{plain_component}
use Rattle.abc_readers.specs.Programs.{starts_component, component}
use Rattle.abc_parse.proofs.items.components.Given as goal

abbrev pub invariant-items : goal.invariant-items
invariant-items l = record {
  same : repeated_on starts_component component (map plain_component l.found) l.parser.rest.lexemes.now ≡ repeated starts_component component l.fn.parser.rest.lexemes.now;
  no_longer : length l.parser.rest.lexemes.now ≤ length l.fn.parser.rest.lexemes.now;
}

abbrev pub decreases-items : goal.decreases-items
decreases-items l = length l.parser.rest.lexemes.now
