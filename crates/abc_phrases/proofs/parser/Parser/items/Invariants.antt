use Rattle.std.proofs.Common.{◌≡◌, ◌<◌, length, map}
use Rattle.abc_cause.specs.declared.Cause.TheVariants.{Syntax}
use Rattle.abc_pred.specs.Standing.{operand_of}
use Rattle.abc_reading.specs.Reading.{joined, mapped, ◌>>=◌}
use Rattle.abc_readers.specs.Operands.{alone, commas, close_round}
use Rattle.abc_readers.specs.Exprs.{whole_operand, items}
use Rattle.abc_phrases.proofs.parser.Parser.items.Given as goal

abbrev pub invariant-loop-more : goal.invariant-loop-more
invariant-loop-more l = record {
  same : (joined Syntax (λ us. mapped alone (whole_operand us)) commas (map operand_of l.found) l.self.rest.lexemes.now >>= close_round) ≡ items l.fn.self.rest.lexemes.now;
  shorter : length l.self.rest.lexemes.now < length l.fn.self.rest.lexemes.now;
}

abbrev pub decreases-loop-more : goal.decreases-loop-more
decreases-loop-more l = length l.self.rest.lexemes.now
