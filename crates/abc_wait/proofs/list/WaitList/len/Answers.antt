use Rattle.abc_wait.proofs.Places.{window_in_order}
use Rattle.abc_wait.proofs.list.WaitList.len.Goals as goal

pub returns-clause-in_order : goal.returns-clause-in_order
returns-clause-in_order g c =
    window_in_order c.args.self.now c.self.inside.first c.self.inside.places.items c.self.view_is
