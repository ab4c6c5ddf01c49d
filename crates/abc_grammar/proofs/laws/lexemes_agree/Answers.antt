use Rattle.abc_grammar.proofs.LexemesMeant as meant
use Rattle.abc_grammar.proofs.laws.lexemes_agree.Goals as goal

pub returns : goal.returns
returns c = meant.lexemes_agree
