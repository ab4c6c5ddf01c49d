use Rattle.std.proofs.Common.{◌≡◌, ◌≤◌, ◌-◌, length}
use Rattle.abc_phrases.specs.Answers.{after_nots}
use Rattle.abc_phrases.proofs.parser.Parser.nots.Given as goal

abbrev pub invariant-loop-more : goal.invariant-loop-more
invariant-loop-more l = record {
  passed : l.fn.self.rest.lexemes.now ≡ after_nots (length l.fn.self.rest.lexemes.now - length l.self.rest.lexemes.now) l.self.rest.lexemes.now;
  left : length l.self.rest.lexemes.now ≤ length l.fn.self.rest.lexemes.now;
}

abbrev pub decreases-loop-more : goal.decreases-loop-more
decreases-loop-more l = length l.self.rest.lexemes.now
