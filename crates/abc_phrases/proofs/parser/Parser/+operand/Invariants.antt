use Rattle.std.proofs.Common.{◌≡◌, ◌<◌, length, ◌+◌, ◌*◌}
use Rattle.abc_cause.specs.declared.Cause.TheVariants.{Syntax}
use Rattle.abc_pred.specs.Standing.{operand_of}
use Rattle.abc_reading.specs.Reading.{joined}
use Rattle.abc_readers.specs.Operands.{atom, stars, product, signs, operand}
use Rattle.abc_phrases.proofs.parser.Parser.+operand.Given as goal

abbrev pub decreases-bracketed : goal.decreases-bracketed
decreases-bracketed l = 4 * length l.self.now.rest.lexemes.now + 4

abbrev pub decreases-applied : goal.decreases-applied
decreases-applied l = 4 * length l.self.now.rest.lexemes.now + 4

abbrev pub decreases-atom : goal.decreases-atom
decreases-atom l = 4 * length l.self.now.rest.lexemes.now + 1

abbrev pub decreases-product : goal.decreases-product
decreases-product l = 4 * length l.self.now.rest.lexemes.now + 2

abbrev pub decreases-operand : goal.decreases-operand
decreases-operand l = 4 * length l.self.now.rest.lexemes.now + 3

abbrev pub invariant-product-loop-more : goal.invariant-product-loop-more
invariant-product-loop-more l = record {
  same : joined Syntax atom stars (operand_of l.left) l.self.rest.lexemes.now ≡ product l.fn.self.rest.lexemes.now;
  shorter : length l.self.rest.lexemes.now < length l.fn.self.rest.lexemes.now;
}

abbrev pub decreases-product-loop-more : goal.decreases-product-loop-more
decreases-product-loop-more l = length l.self.rest.lexemes.now

abbrev pub invariant-operand-signs : goal.invariant-operand-signs
invariant-operand-signs l = record {
  same : joined Syntax product signs (operand_of l.left) l.self.rest.lexemes.now ≡ operand l.fn.self.rest.lexemes.now;
  shorter : length l.self.rest.lexemes.now < length l.fn.self.rest.lexemes.now;
}

abbrev pub decreases-operand-signs : goal.decreases-operand-signs
decreases-operand-signs l = length l.self.rest.lexemes.now
