use Rattle.std.proofs.Common.{◌≡◌, ◌<◌, length}
use Rattle.abc_cause.specs.declared.Cause.TheVariants.{Syntax}
use Rattle.abc_reading.specs.Reading.{joined, mapped, ◌>>=◌}
use Rattle.abc_readers.specs.Operands.{alone, commas}
use Rattle.abc_readers.specs.Combining.{one, listed_up}
use Rattle.abc_readers.specs.Processes.{round_closes, a_variable}
use Rattle.abc_processes.proofs.lists.variables_closed.Given as goal

abbrev pub invariant-loop-more : goal.invariant-loop-more
invariant-loop-more l = record {
  same : (joined Syntax (λ us. mapped alone (one a_variable us)) commas l.found l.parser.rest.lexemes.now
      >>= λ xs us. mapped (λ u. xs) (one round_closes us)) ≡ listed_up round_closes (one a_variable) l.fn.parser.rest.lexemes.now;
  shorter : length l.parser.rest.lexemes.now < length l.fn.parser.rest.lexemes.now;
}

abbrev pub decreases-loop-more : goal.decreases-loop-more
decreases-loop-more l = length l.parser.rest.lexemes.now
