use Rattle.std.proofs.Common.{◌≡◌, ◌<◌, length}
use Rattle.abc_cause.specs.declared.Cause.TheVariants.{Syntax}
use Rattle.abc_term.specs.Standing.{exprs_of}
use Rattle.abc_reading.specs.Reading.{joined, mapped, ◌>>=◌}
use Rattle.abc_readers.specs.Operands.{alone, commas}
use Rattle.abc_readers.specs.Exprs.{whole_expr}
use Rattle.abc_readers.specs.Combining.{one, listed_up}
use Rattle.abc_readers.specs.Processes.{round_closes}
use Rattle.abc_processes.proofs.lists.exprs_closed.Given as goal

abbrev pub invariant-loop-more : goal.invariant-loop-more
invariant-loop-more l = record {
  same : (joined Syntax (λ us. mapped alone (whole_expr us)) commas (exprs_of l.found) l.parser.rest.lexemes.now
      >>= λ es us. mapped (λ u. es) (one round_closes us)) ≡ listed_up round_closes whole_expr l.fn.parser.rest.lexemes.now;
  shorter : length l.parser.rest.lexemes.now < length l.fn.parser.rest.lexemes.now;
}

abbrev pub decreases-loop-more : goal.decreases-loop-more
decreases-loop-more l = length l.parser.rest.lexemes.now
