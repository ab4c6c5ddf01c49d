use Rattle.std.proofs.Common.{◌≡◌, ◌++◌, false, length}
use Rattle.abc_text.specs.Tokens.{text_value}
use Rattle.abc_lexer.proofs.meaning.unescaped.Given as goal

abbrev pub invariant-loop-first : goal.invariant-loop-first
invariant-loop-first l = l.held ++ text_value l.escape l.rest ≡ text_value false l.bytes

abbrev pub decreases-loop-first : goal.decreases-loop-first
decreases-loop-first l = length l.rest
