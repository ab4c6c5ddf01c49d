use Rattle.std.proofs.Common.{◌∷◌, [], refl, sym, ap, ◌∙◌, subst, arith}
use Rattle.abc_packet.specs.declared.packets.Packet.TheVariants.{Request}
use Rattle.abc_packet.specs.declared.log.Deed.TheVariants.{Asked}
use Rattle.abc_agent.specs.Ways.{way_of, HasLinksFrom}
use Rattle.abc_agent.specs.Members.{Member}
use Rattle.abc_agent.proofs.Leading.{leads_along}
use Rattle.abc_agent.proofs.Making.{makes_by, sends_one, packets-of_ask, clock-of_entry}
use Rattle.abc_agent.proofs.agent.Agent.ask.Goals as goal

-- the link leads from the agent, so the outlet has it
pub send-requires-clause-has : goal.send-requires-clause-has
send-requires-clause-has g c =
    let a = c.self.inside in
    let leads : Member g.row.B.Denot g.row.B-Label.Denot → Type 0 =
    λ x. HasLinksFrom x.plan x.number (g.O.Outlet.has_link c.args.outlet.now) in
    leads_along a.plan.now a.number c.packets.result c.way-link.result (g.O.Outlet.has_link c.args.outlet.now)
    (g.O.Outlet.has_link c.make_rooms.new.outlet) c.way-link.ensures.limits c.self.invariant.0 c.way-link.ensures.way
    c.make_rooms.ensures.links (subst leads (sym c.self.view_is) c.requires.links)

-- packets are at most the clock
pub invariant_of-self-2 : goal.invariant_of-self-2
invariant_of-self-2 g c =
    let a = c.self.inside in
    let more = packets-of_ask g.B.Body.meaning (way_of a.plan.now a.number) a.number a.state c.ask.new.self _
    (c.ask.ensures (way_of a.plan.now a.number) a.number) in
    let clock = clock-of_entry a.journal c.make_rooms.new.journal c.enter-clock.new.self Asked c.make_rooms.ensures.same
    c.enter-clock.ensures.enters refl in
    let before = c.self.invariant.2 in
    (c.self.invariant.0, c.self.invariant.1, omega arith)

-- the row, the entry and what was sent
pub returns-clause-made : goal.returns-clause-made
returns-clause-made g c =
    let a = c.self.inside in
    let way = way_of a.plan.now a.number in
    let before = g.O.Outlet.lists c.args.outlet.now in
    let after = g.O.Outlet.lists c.send.new.self in
    let clock = c.enter-clock.new.self.clock in
    let sent = sends_one before (g.O.Outlet.lists c.make_rooms.new.outlet) after c.way-link.result (way a.state.packets)
    clock c.new.result (Request a.number) c.make_rooms.ensures.lists c.send.ensures.lists
    (c.way-link.ensures.way ∙ ap way c.packets.ensures) (c.new.ensures.clock ∙ c.enter-clock.ensures.clock)
    c.new.ensures.packet in
    rw (← c.self.view_is) (
      makes_by _ [] a.state c.ask.new.self a.journal c.make_rooms.new.journal c.enter-clock.new.self Asked
          ((way a.state.packets, Request a.number) ∷ []) before after (c.ask.ensures way a.number)
          c.make_rooms.ensures.same c.enter-clock.ensures.enters refl sent,
      tt,
    )
