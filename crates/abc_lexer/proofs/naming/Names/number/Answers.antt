use Rattle.std.proofs.Common.{List, ℕ, ap, ◌∙◌}
use Rattle.abc_text.specs.Meanings.{with_word, number_in}
use Rattle.abc_lexer.proofs.Numbering.{words_of, words-insert, number-insert}
use Rattle.abc_lexer.proofs.naming.Names.number.Goals as goal

pub returns-clause-names : goal.returns-clause-names
returns-clause-names c = ap words_of c.in_ok-index.ensures.keys ∙ words-insert c.self.inside.words.keys c.args.word ∙ ap (λ (words : List (List ℕ)). with_word words c.args.word.now) c.self.view_is

pub returns-clause-number : goal.returns-clause-number
returns-clause-number c = c.in_ok-index.ensures.index ∙ number-insert c.self.inside.words.keys c.args.word ∙ ap (λ (words : List (List ℕ)). number_in words c.args.word.now) c.self.view_is
