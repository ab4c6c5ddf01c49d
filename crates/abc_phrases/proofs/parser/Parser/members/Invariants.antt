use Rattle.std.proofs.Common.{◌≡◌, ◌<◌, length}
use Rattle.abc_cause.specs.declared.Cause.TheVariants.{Syntax}
use Rattle.abc_reading.specs.Reading.{joined, mapped, ◌>>=◌}
use Rattle.abc_readers.specs.Operands.{scalar, alone, commas, close_curly, members}
use Rattle.abc_phrases.proofs.parser.Parser.members.Given as goal

abbrev pub invariant-loop-more : goal.invariant-loop-more
invariant-loop-more l = record {
  same : (joined Syntax (λ us. mapped alone (scalar us)) commas l.found.items l.self.rest.lexemes.now >>= close_curly) ≡ members l.fn.self.rest.lexemes.now;
  shorter : length l.self.rest.lexemes.now < length l.fn.self.rest.lexemes.now;
}

abbrev pub decreases-loop-more : goal.decreases-loop-more
decreases-loop-more l = length l.self.rest.lexemes.now
