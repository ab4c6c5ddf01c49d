use Rattle.std.proofs.Common.{◌-◌, [], refl, sym, subst, arith}
use Rattle.std.specs.Prelude.{map}
use Rattle.abc_packet.specs.declared.limits.TheConstants.{MOST_CLOCK}
use Rattle.abc_schedule.specs.Laws.{ClocksWithin}
use Rattle.abc_agent.specs.Members.{IsTake}
use Rattle.abc_world.specs.declared.event.EventKind.TheVariants.{Take}
use Rattle.abc_world.specs.Runnings.{Answers, Running}
use Rattle.abc_world.proofs.Among.{stays-by-answer}
use Rattle.abc_world.proofs.Staying.{agents-stay}
use Rattle.abc_world.proofs.Stepping.{agent-steps}
use Rattle.abc_world.proofs.Lacking.{none-takes}
use Rattle.abc_world.proofs.Networked.{nothing-past, agent-low, agents-kept, answers-by, running, same-running}
use Rattle.abc_world.proofs.network.Network.take.Goals as goal

-- past the last agent nobody takes
pub returns-then-actor-agents-clause-answers : goal.returns-then-actor-agents-clause-answers
returns-then-actor-agents-clause-answers g c =
    let s = c.self.inside in
    let p = s.plan.now in
    let met = g.met.M.Node in
    let nodes = map g.M.Node.node s.nodes.items in
    let many = c.self.invariant.0.many in
    let count = c.agents.ensures.number in
    let past = c.if-actor-agents.true in
    rw (← c.self.view_is) (
      none-takes g.B.Body.meaning g.M.Node.machine g.M.Node.blank met.tables p s.numbers.limit s.pick s.agents.items
          nodes s.links.queues s.numbers c.args.actor
          (λ a at can. nothing-past s.agents.items c.args.actor p.agents a many (omega arith) at),
      refl,
    )

pub take_if_can-requires-clause-clock : goal.take_if_can-requires-clause-clock
take_if_can-requires-clause-clock g c κs within =
    let s = c.self.inside in
    let Low : Running g.row.B.Denot g.row.B-Label.Denot g.row.M-State.Denot → Type 0 =
    λ v. ClocksWithin (MOST_CLOCK - 1) v.net in
    agent-low s.plan.now s.agents.items (map g.M.Node.node s.nodes.items) s.links.queues s.numbers
    (subst Low (sym c.self.view_is) c.requires.low) c.args.actor

pub invariant_of-self-2 : goal.invariant_of-self-2
invariant_of-self-2 g c =
    let s = c.self.inside in
    let p = s.plan.now in
    let m = g.B.Body.meaning in
    let kept = agents-kept p s.pick s.agents.items c.take_if_can.new.agents.items s.links.queues s.links.queues _ _
    c.in_ok-made.made c.self.invariant.2 c.self.invariant.0
    (λ h. (
      agents-stay m p s.pick c.args.actor IsTake [] s.agents.items c.take_if_can.new.agents.items s.links.queues
          s.links.queues c.self.invariant.0 (h s.links.queues),
      refl,
    )) c.in_ok-made.ensures.made
    (stays-by-answer c.in_ok-made.made (λ e. (e, refl)) c.in_ok-made.ensures.stays) in
    (kept.0, c.self.invariant.1, kept.1)

pub returns-clause-answers : goal.returns-clause-answers
returns-clause-answers g c =
    let s = c.self.inside in
    let p = s.plan.now in
    let m = g.B.Body.meaning in
    let met = g.met.M.Node in
    let nodes = map g.M.Node.node s.nodes.items in
    let agents' = c.take_if_can.new.agents.items in
    let links' = s.links.queues in
    let old = running p s.numbers.limit s.pick s.agents.items nodes s.links.queues s.numbers in
    let new = running p s.numbers.limit s.pick agents' nodes links' s.numbers in
    subst (λ v. Answers m g.M.Node.machine g.M.Node.blank c.args.actor Take v c.answer.result new) c.self.view_is
    (answers-by m g.M.Node.machine g.M.Node.blank c.args.actor Take old new _ _ c.in_ok-made.made c.answer.result
    c.answer.ensures c.in_ok-made.ensures.made
    (stays-by-answer c.in_ok-made.made
    (λ e. same-running p s.numbers.limit s.pick s.agents.items agents' nodes s.links.queues links' s.numbers (e, refl))
    c.in_ok-made.ensures.stays)
    (λ h. agent-steps m g.M.Node.machine g.M.Node.blank p s.numbers.limit s.pick c.args.actor Take [] s.agents.items agents'
    nodes s.links.queues links' s.numbers c.agents.ensures.limits c.self.invariant.2 c.self.invariant.0 tt (h s.links.queues))
    (none-takes m g.M.Node.machine g.M.Node.blank met.tables p s.numbers.limit s.pick s.agents.items nodes
    s.links.queues s.numbers c.args.actor))
