use Rattle.std.proofs.Common.{◌-◌, [], refl, sym, subst, arith}
use Rattle.std.specs.Prelude.{map}
use Rattle.abc_packet.specs.declared.limits.TheConstants.{MOST_CLOCK}
use Rattle.abc_schedule.specs.Laws.{ClocksWithin}
use Rattle.abc_agent.specs.Members.{IsAsk}
use Rattle.abc_world.specs.declared.event.EventKind.TheVariants.{Ask}
use Rattle.abc_world.specs.Runnings.{Answers, Running}
use Rattle.abc_world.proofs.Among.{stays-by-answer}
use Rattle.abc_world.proofs.Staying.{agents-stay}
use Rattle.abc_world.proofs.Stepping.{agent-steps}
use Rattle.abc_world.proofs.Lacking.{none-asks}
use Rattle.abc_world.proofs.Networked.{nothing-past, agent-low, agent-leads, agents-kept, answers-by, running, same-running}
use Rattle.abc_world.proofs.network.Network.ask.Goals as goal

-- past the last agent nobody asks
pub returns-then-actor-agents-clause-answers : goal.returns-then-actor-agents-clause-answers
returns-then-actor-agents-clause-answers g c =
    let s = c.self.inside in
    let p = s.plan.now in
    let met = g.met.M.Node in
    let nodes = map g.M.Node.node s.nodes.items in
    let many = c.self.invariant.0.many in
    let count = c.agents.ensures.number in
    let past = c.if-actor-agents.true in
    rw (← c.self.view_is) (
      none-asks g.B.Body.meaning g.M.Node.machine g.M.Node.blank met.tables p s.numbers.limit s.pick s.agents.items
          nodes s.links.queues s.numbers c.args.actor
          (λ a at can. nothing-past s.agents.items c.args.actor p.agents a many (omega arith) at),
      refl,
    )

pub ask-requires-clause-links : goal.ask-requires-clause-links
ask-requires-clause-links g c κs within =
    let s = c.self.inside in
    agent-leads s.plan.now s.agents.items (map g.M.Node.node s.nodes.items) s.links.queues s.numbers s.pick
    c.agents.ensures.limits c.self.invariant.2 c.self.invariant.0 c.args.actor

pub ask-requires-clause-clock : goal.ask-requires-clause-clock
ask-requires-clause-clock g c κs within =
    let s = c.self.inside in
    let Low : Running g.row.B.Denot g.row.B-Label.Denot g.row.M-State.Denot → Type 0 =
    λ v. ClocksWithin (MOST_CLOCK - 1) v.net in
    agent-low s.plan.now s.agents.items (map g.M.Node.node s.nodes.items) s.links.queues s.numbers
    (subst Low (sym c.self.view_is) c.requires.low) c.args.actor

pub invariant_of-self-2 : goal.invariant_of-self-2
invariant_of-self-2 g c =
    let s = c.self.inside in
    let p = s.plan.now in
    let m = g.B.Body.meaning in
    let kept = agents-kept p s.pick s.agents.items c.ask.new.agents.items s.links.queues c.ask.new.links.queues _ _
    c.in_ok-made.made c.self.invariant.2 c.self.invariant.0
    (λ h. (
      agents-stay m p s.pick c.args.actor IsAsk [] s.agents.items c.ask.new.agents.items s.links.queues
          c.ask.new.links.queues c.self.invariant.0 h,
      h.tables.many,
    )) c.in_ok-made.ensures.made c.in_ok-made.ensures.stays in
    (kept.0, c.self.invariant.1, kept.1)

pub returns-clause-answers : goal.returns-clause-answers
returns-clause-answers g c =
    let s = c.self.inside in
    let p = s.plan.now in
    let m = g.B.Body.meaning in
    let met = g.met.M.Node in
    let nodes = map g.M.Node.node s.nodes.items in
    let agents' = c.ask.new.agents.items in
    let links' = c.ask.new.links.queues in
    let old = running p s.numbers.limit s.pick s.agents.items nodes s.links.queues s.numbers in
    let new = running p s.numbers.limit s.pick agents' nodes links' s.numbers in
    subst (λ v. Answers m g.M.Node.machine g.M.Node.blank c.args.actor Ask v c.answer.result new) c.self.view_is
    (answers-by m g.M.Node.machine g.M.Node.blank c.args.actor Ask old new _ _ c.in_ok-made.made c.answer.result
    c.answer.ensures c.in_ok-made.ensures.made
    (stays-by-answer c.in_ok-made.made
    (same-running p s.numbers.limit s.pick s.agents.items agents' nodes s.links.queues links' s.numbers)
    c.in_ok-made.ensures.stays)
    (agent-steps m g.M.Node.machine g.M.Node.blank p s.numbers.limit s.pick c.args.actor Ask [] s.agents.items agents' nodes
    s.links.queues links' s.numbers c.agents.ensures.limits c.self.invariant.2 c.self.invariant.0 tt)
    (none-asks m g.M.Node.machine g.M.Node.blank met.tables p s.numbers.limit s.pick s.agents.items nodes
    s.links.queues s.numbers c.args.actor))
