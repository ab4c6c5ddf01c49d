use Rattle.std.proofs.Common.{[], ◌∷◌, subst}
use Rattle.std.specs.Prelude.{Some}
use Rattle.abc_packet.specs.declared.packets.Packet.TheVariants.{Reply}
use Rattle.abc_packet.specs.Outlets.{Sends}
use Rattle.abc_logs.specs.MicroSteps.{stamped_with}
use Rattle.abc_network.specs.Links.{to_agent}
use Rattle.abc_history.specs.Nodes.{Drew}
use Rattle.abc_cluster.proofs.Arriving.{arrived}
use Rattle.abc_cluster.proofs.arrival.answer.Goals as goal

-- The link leads from the node, so the outlet has it.
pub reply-requires-clause-back : goal.reply-requires-clause-back
reply-requires-clause-back g c = c.requires.from c.link_to-back.result c.args.agent c.link_to-back.ensures.leads

-- What was drawn is sent to the agent that asks.
pub returns-clause-arrives : goal.returns-clause-arrives
returns-clause-arrives g c =
    let s = c.args.station.now in
    let n = g.N.Numbers in
    let grant = c.reply.result in
    let before = g.O.Outlet.lists c.args.outlet.now in
    let after = g.O.Outlet.lists c.reply.new.outlet in
    let now = c.reply.new.history in
    let to = to_agent s.plan.nodes s.number c.args.agent in
    let sent = subst (λ l. Sends before (stamped_with now.clock ((l, Reply c.args.agent grant) ∷ [])) after)
    {x = c.link_to-back.result} {y = to} c.link_to-back.ensures.number c.reply.ensures.lists in
    arrived s c.args.link c.args.stamped c.args.history.now now before after (Some grant)
    ((to, Reply c.args.agent grant) ∷ [])
    (λ d. Drew n.limit n.drawn n.closed n.stays d c.args.numbers.now c.reply.new.numbers)
    (c.requires.row.1 grant) c.reply.ensures.noted sent c.reply.ensures.drew
