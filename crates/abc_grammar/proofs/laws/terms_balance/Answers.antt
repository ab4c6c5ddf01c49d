use Rattle.abc_grammar.proofs.Balance.{pred_balance, program_balance}
use Rattle.abc_grammar.proofs.laws.terms_balance.Goals as goal

pub returns : goal.returns
returns c = record { preds = λ ts a h. pred_balance h; programs = λ ts p h. program_balance h }
