use Rattle.abc_pred.proofs.Closing.{closes, close-again, sat-closed}
use Rattle.abc_pred.proofs.laws.closing_closes.Goals as goal

pub returns-clause-closes : goal.returns-clause-closes
returns-clause-closes c = closes

pub returns-clause-again : goal.returns-clause-again
returns-clause-again c = close-again

pub returns-clause-receiver : goal.returns-clause-receiver
returns-clause-receiver c = sat-closed
