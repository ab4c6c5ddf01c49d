use Rattle.std.proofs.Common.{length, ◌+◌, ◌*◌}
use Rattle.abc_phrases.proofs.parser.Parser.+expr.Given as goal

abbrev pub decreases-whole_expr : goal.decreases-whole_expr
decreases-whole_expr l = 4 * length l.self.now.rest.lexemes.now + 2

abbrev pub decreases-two_exprs : goal.decreases-two_exprs
decreases-two_exprs l = 4 * length l.self.now.rest.lexemes.now + 3

abbrev pub decreases-pair : goal.decreases-pair
decreases-pair l = 4 * length l.self.now.rest.lexemes.now

abbrev pub decreases-expr : goal.decreases-expr
decreases-expr l = 4 * length l.self.now.rest.lexemes.now + 1
