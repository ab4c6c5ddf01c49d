use Rattle.abc_pool.specs.Queues.{items_in}
use Rattle.abc_world.proofs.Delivered.{begins, begins-not}
use Rattle.abc_world.proofs.links.Links.waits.Goals as goal

pub returns-in-Some : goal.returns-in-Some
returns-in-Some g c =
    let found = begins (items_in c.self.inside.pool c.args.link) c.in-Some._first.now c.in-Some.ensures in
    rw (← c.self.view_is) (c.in-Some._first.now, found.0, found.1)

pub returns-in-None : goal.returns-in-None
returns-in-None g c = rw (← c.self.view_is) (begins-not (items_in c.self.inside.pool c.args.link) c.in-None.ensures)
