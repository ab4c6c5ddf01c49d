use Rattle.abc_network.specs.Rings.{ring_kind}
use Rattle.abc_world.proofs.Among.{same-many}
use Rattle.abc_world.proofs.PassedOn.{passed, stays, refused}
use Rattle.abc_world.proofs.ring.RingNodeNode.pass.Goals as goal

pub returns-clause-made : goal.returns-clause-made
returns-clause-made g c =
    passed c.pass.result (ring_kind c.args.self.now.plan) c.args.self.now.number c.args.self.now.actor c.pass.new.self.actor
    c.args.links.now.queues c.pass.new.outlet.queues c.pass.ensures.made

pub returns-clause-links : goal.returns-clause-links
returns-clause-links g c = same-many c.args.links.now.queues c.pass.new.outlet.queues c.pass.ensures.links

pub returns-clause-stays : goal.returns-clause-stays
returns-clause-stays g c =
    stays _ c.pass.result c.args.links.now.queues c.pass.new.outlet.queues c.pass.ensures.links c.pass.ensures.stays

pub returns-clause-err : goal.returns-clause-err
returns-clause-err g c =
    refused _ c.pass.result c.args.links.now.queues c.pass.new.outlet.queues c.pass.ensures.links c.pass.ensures.err
