use Rattle.abc_pool.specs.Queues.{items_in}
use Rattle.abc_world.proofs.Delivered.{found-first, stands-first}
use Rattle.abc_world.proofs.delivery.to_node.Goals as goal

-- the packet that was found came, what the node sent was put behind it, and then it was taken
pub returns-clause-made : goal.returns-clause-made
returns-clause-made g c =
    let x = c.in-Some.stamped in
    let f = found-first c.in_ok-stamped.field-0 x (items_in c.args.links.now c.args.link) c.in-Some.is
    c.in_ok-stamped.ensures.first in
    let still = c.in_ok-receive.ensures.first f.0 f.1 in (
      x,
      c.in_ok-receive.ensures.made c.drop_first.new.links.queues
          (stands-first c.args.links.now.queues c.args.link x f.0 f.1) (c.drop_first.ensures.taken x still.0 still.1),
    )
