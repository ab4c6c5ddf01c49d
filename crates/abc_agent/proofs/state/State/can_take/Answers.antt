use Rattle.std.proofs.Common.{◌+◌}
use Rattle.abc_wait.specs.Waits.{item_beside}
use Rattle.abc_agent.proofs.Finding.{item_or_none}
use Rattle.abc_agent.proofs.state.State.can_take.Goals as goal

pub returns-clause-yes_or_no : goal.returns-clause-yes_or_no
returns-clause-yes_or_no g c =
    rw (← c.self.view_is) (item_or_none c.has.result (item_beside c.self.inside.waits.items (c.self.inside.front + 1))
    c.has.ensures.stored c.has.ensures.free)
