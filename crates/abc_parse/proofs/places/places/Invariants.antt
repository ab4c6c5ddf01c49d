use Rattle.std.proofs.Common.{◌≡◌, ◌++◌, false, length}
use Rattle.abc_grammar.specs.Accepted.{places_behind}
use Rattle.abc_parse.specs.WholeTexts.{begins}
use Rattle.abc_parse.proofs.places.places.Given as goal

abbrev pub invariant-tokens : goal.invariant-tokens
invariant-tokens l = l.found ++ places_behind (begins l.fn.kind) l.behind l.lexemes l.tokens ≡ places_behind (begins l.fn.kind) false l.fn.lexemes l.fn.tokens

abbrev pub decreases-tokens : goal.decreases-tokens
decreases-tokens l = length l.lexemes
