use Rattle.abc_world.proofs.Among.{same-many}
use Rattle.abc_world.proofs.PassedOn.{refused-each}
use Rattle.abc_world.proofs.cluster.ClusterNodeNode.arrive.Goals as goal

pub returns-clause-links : goal.returns-clause-links
returns-clause-links g c = same-many c.args.links.now.queues c.arrive.new.outlet.queues c.arrive.ensures.links

pub returns-clause-err : goal.returns-clause-err
returns-clause-err g c =
    refused-each _ _ c.arrive.result c.args.links.now.queues c.arrive.new.outlet.queues c.arrive.ensures.links
    c.arrive.ensures.node_as_before c.arrive.ensures.none_drawn c.arrive.ensures.none_sent
