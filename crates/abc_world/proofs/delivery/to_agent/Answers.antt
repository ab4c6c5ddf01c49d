use Rattle.abc_pool.specs.Queues.{items_in}
use Rattle.abc_world.proofs.Delivered.{found-first}
use Rattle.abc_world.proofs.delivery.to_agent.Goals as goal

-- the packet that was found came, and was then taken
pub returns-clause-made : goal.returns-clause-made
returns-clause-made g c =
    let x = c.in-Some.stamped in
    let f = found-first c.in_ok-stamped.field-0 x (items_in c.args.links.now c.args.link) c.in-Some.is
    c.in_ok-stamped.ensures.first in (
      x,
      c.in_ok-arrive.ensures.made c.args.links.now.queues c.drop_first.new.links.queues
          (c.drop_first.ensures.taken x f.0 f.1),
    )
