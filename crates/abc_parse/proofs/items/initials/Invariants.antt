use Rattle.std.proofs.Common.{◌≡◌, ◌≤◌, length}
use Rattle.abc_readers.specs.Combining.{repeated, repeated_on}
use Rattle.abc_readers.specs.Programs.{starts_initial, initial}
use Rattle.abc_parse.proofs.items.initials.Given as goal

abbrev pub invariant-items : goal.invariant-items
invariant-items l = record {
  same : repeated_on starts_initial initial (l.found) l.parser.rest.lexemes.now ≡ repeated starts_initial initial l.fn.parser.rest.lexemes.now;
  no_longer : length l.parser.rest.lexemes.now ≤ length l.fn.parser.rest.lexemes.now;
}

abbrev pub decreases-items : goal.decreases-items
decreases-items l = length l.parser.rest.lexemes.now
