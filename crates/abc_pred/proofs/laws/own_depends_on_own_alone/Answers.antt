use Rattle.abc_pred.proofs.Values.{own_depends_on_own_alone}
use Rattle.abc_pred.proofs.laws.own_depends_on_own_alone.Goals as goal

pub returns : goal.returns
returns c = own_depends_on_own_alone
