use Rattle.std.proofs.Common.{ap, ◌∙◌, Some}
use Rattle.abc_pool.specs.Queues.{items_in}
use Rattle.abc_world.proofs.Delivered.{begins, begins-not}
use Rattle.abc_world.proofs.delivery.first_copy.Goals as goal

pub returns-in_ok-copy-in-Some : goal.returns-in_ok-copy-in-Some
returns-in_ok-copy-in-Some g c =
    record {
      first = begins (items_in c.args.links.now c.args.link) c.in_ok-copy-in-Some.field-0
          (ap Some c.in_ok-copy-in-Some.ensures ∙ c.in-Some.ensures.first);
    }

pub returns-in-None : goal.returns-in-None
returns-in-None g c = record { first = begins-not (items_in c.args.links.now c.args.link) c.in-None.ensures.first }
