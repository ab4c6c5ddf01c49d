use Rattle.std.proofs.Common.{[], refl}
use Rattle.abc_packet.specs.declared.log.Deed.TheVariants.{Took}
use Rattle.abc_agent.proofs.Making.{makes_by, sends_nothing}
use Rattle.abc_agent.proofs.agent.Agent.take.Goals as goal

-- the row and the entry; nothing was sent
pub returns-clause-made : goal.returns-clause-made
returns-clause-made g c = λ lists.
    let a = c.self.inside in
    rw (← c.self.view_is) (
      makes_by _ [] a.state c.take.new.self a.journal c.make_room.new.self c.enter.new.self
          (Took c.in_ok-number.number c.in_ok-number.place) [] lists lists c.in_ok-number.ensures.took
          c.make_room.ensures.same c.enter.ensures.enters refl (sends_nothing lists lists (λ link. refl)),
      tt,
    )
