use Rattle.abc_wait.specs.Waits.{item_beside}
use Rattle.abc_store.proofs.Finding.{item_or_none}
use Rattle.abc_store.proofs.stock.Stock.can_pass.Goals as goal

pub returns : goal.returns
returns g c =
    rw (← c.self.view_is) (item_or_none c.has.result (item_beside c.self.inside.waits.items c.self.inside.next)
    c.has.ensures.stored c.has.ensures.free)
