use Rattle.std.proofs.Common.{[], ◌∷◌, refl, subst}
use Rattle.abc_agent.specs.Journals.{Enters, arrival_of}
use Rattle.abc_agent.specs.Ways.{way_of}
use Rattle.abc_agent.proofs.Making.{makes_by, sends_nothing, row-of_arrival, taken_by-of_arrival}
use Rattle.abc_agent.proofs.agent.Agent.arrive.Goals as goal

-- the row and the entry; nothing was sent
pub returns-clause-made : goal.returns-clause-made
returns-clause-made g c = λ lists.
    let a = c.self.inside in
    let fits = c.in_ok-fits.fits in
    let row = row-of_arrival g.B.Body.meaning a.pick (way_of a.plan.now a.number) a.number a.state c.receive.new.self
    c.args.link c.args.stamped c.in_ok-packet.packet fits c.in_ok-packet.ensures.value c.in_ok-fits.ensures.fits
    c.in_ok-fits.ensures.stays in
    rw (← c.self.view_is) (
    makes_by _ ((c.args.link, c.args.stamped) ∷ []) a.state c.receive.new.self a.journal c.make_room.new.self
    c.enter.new.self (arrival_of fits c.args.link c.args.stamped) [] lists lists row c.make_room.ensures.same
    (subst (λ d. Enters c.make_room.new.self d c.enter.new.self) c.arrival.ensures.value c.enter.ensures.enters)
    (taken_by-of_arrival fits c.args.link c.args.stamped) (sends_nothing lists lists (λ link. refl))
    )
