use Rattle.std.proofs.Common.{◌≡◌, take}
use Rattle.abc_lexemes.specs.Lexed as spec
use Rattle.abc_lexemes.proofs.naming.most_named.Given as goal

abbrev pub invariant-loop-lexeme : goal.invariant-loop-lexeme
invariant-loop-lexeme l = l.most ≡ spec.most_named l.known (take l.lexeme-index l.lexemes)
