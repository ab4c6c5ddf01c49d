use Rattle.std.proofs.Common.{◌≡◌, ◌<◌, length}
use Rattle.abc_cause.specs.declared.Cause.TheVariants.{Syntax}
use Rattle.abc_reading.specs.Reading.{joined, mapped, ◌>>=◌}
use Rattle.abc_readers.specs.Operands.{alone, commas}
use Rattle.abc_readers.specs.Combining.{one, listed_up}
use Rattle.abc_readers.specs.Processes.{a_name}
use Rattle.abc_readers.specs.Programs.{semicolon}
use Rattle.abc_parse.proofs.items.names.Given as goal

abbrev pub invariant-items : goal.invariant-items
invariant-items l = record {
  same : (joined Syntax (λ us. mapped alone (one a_name us)) commas l.found l.parser.rest.lexemes.now >>= λ items us. mapped (λ u. items) (one semicolon us)) ≡ listed_up semicolon (one a_name) l.fn.parser.rest.lexemes.now;
  shorter : length l.parser.rest.lexemes.now < length l.fn.parser.rest.lexemes.now;
}

abbrev pub decreases-items : goal.decreases-items
decreases-items l = length l.parser.rest.lexemes.now
