use Rattle.std.proofs.Common.{◌≡◌, ◌<◌, length, ◌+◌, ◌*◌}
use Rattle.abc_cause.specs.declared.Cause.TheVariants.{Syntax}
use Rattle.abc_pred.specs.Standing.{pred_of}
use Rattle.abc_reading.specs.Reading.{joined}
use Rattle.abc_readers.specs.Preds.{test, ands, both, ors, pred}
use Rattle.abc_phrases.proofs.parser.Parser.+pred.Given as goal

abbrev pub decreases-bracketed_pred : goal.decreases-bracketed_pred
decreases-bracketed_pred l = 5 * length l.self.now.rest.lexemes.now + 5

abbrev pub decreases-plain : goal.decreases-plain
decreases-plain l = 5 * length l.self.now.rest.lexemes.now + 1

abbrev pub decreases-test : goal.decreases-test
decreases-test l = 5 * length l.self.now.rest.lexemes.now + 2

abbrev pub decreases-both : goal.decreases-both
decreases-both l = 5 * length l.self.now.rest.lexemes.now + 3

abbrev pub decreases-pred : goal.decreases-pred
decreases-pred l = 5 * length l.self.now.rest.lexemes.now + 4

abbrev pub invariant-both-loop-more : goal.invariant-both-loop-more
invariant-both-loop-more l = record {
  same : joined Syntax test ands (pred_of l.left) l.self.rest.lexemes.now ≡ both l.fn.self.rest.lexemes.now;
  shorter : length l.self.rest.lexemes.now < length l.fn.self.rest.lexemes.now;
}

abbrev pub decreases-both-loop-more : goal.decreases-both-loop-more
decreases-both-loop-more l = length l.self.rest.lexemes.now

abbrev pub invariant-pred-loop-more : goal.invariant-pred-loop-more
invariant-pred-loop-more l = record {
  same : joined Syntax both ors (pred_of l.left) l.self.rest.lexemes.now ≡ pred l.fn.self.rest.lexemes.now;
  shorter : length l.self.rest.lexemes.now < length l.fn.self.rest.lexemes.now;
}

abbrev pub decreases-pred-loop-more : goal.decreases-pred-loop-more
decreases-pred-loop-more l = length l.self.rest.lexemes.now
