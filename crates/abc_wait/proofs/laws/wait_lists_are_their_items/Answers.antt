use Rattle.abc_wait.proofs.Items.{same_waits}
use Rattle.abc_wait.proofs.laws.wait_lists_are_their_items.Goals as goal

pub returns : goal.returns
returns g c = λ v w v_order w_order first items. same_waits v w v_order w_order first items
