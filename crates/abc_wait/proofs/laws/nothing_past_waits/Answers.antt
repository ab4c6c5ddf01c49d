use Rattle.abc_wait.proofs.Items.{item_beside-before}
use Rattle.abc_wait.proofs.laws.nothing_past_waits.Goals as goal

pub returns : goal.returns
returns g c = λ w n order past. item_beside-before w.first n w.items order past
