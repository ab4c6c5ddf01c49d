use Rattle.std.proofs.Common.{ℕ, ◌-◌, ◌<◌, [], ◌∷◌, sym, subst}
use Rattle.std.specs.Prelude.{map}
use Rattle.abc_packet.specs.declared.limits.TheConstants.{MOST_CLOCK}
use Rattle.abc_shape.specs.Plans.{IsLink}
use Rattle.abc_schedule.specs.Laws.{ClocksWithin}
use Rattle.abc_world.specs.declared.event.EventKind.TheVariants.{Arrive}
use Rattle.abc_world.specs.Kinds.{ArrivesOn}
use Rattle.abc_world.specs.Runnings.{Answers, Running, net_of}
use Rattle.abc_world.proofs.Among.{stays-by-answer}
use Rattle.abc_world.proofs.Staying.{agents-stay}
use Rattle.abc_world.proofs.Stepping.{agent-steps}
use Rattle.abc_world.proofs.Lacking.{none-arrives_nothing}
use Rattle.abc_world.proofs.Networked.{agent-low, packet-low, ends-there, agents-kept, answers-by, running, same-running}
use Rattle.abc_world.proofs.network.Network.arrive_at_agent.Goals as goal

pub to_agent-requires-clause-link : goal.to_agent-requires-clause-link
to_agent-requires-clause-link g c κs within =
    let s = c.self.inside in
    let Ends : Running g.row.B.Denot g.row.B-Label.Denot g.row.M-State.Denot → Type 0 =
    λ v. (from : ℕ) × IsLink v.plan c.args.link from c.args.actor in
    let ends = subst Ends (sym c.self.view_is) c.requires.ends in
    ends-there s.plan.now s.links.queues c.args.link ends.0 c.args.actor c.agents-agents.ensures.limits c.self.invariant.2 ends.1

pub to_agent-requires-clause-clock : goal.to_agent-requires-clause-clock
to_agent-requires-clause-clock g c κs within =
    let s = c.self.inside in
    let Low : Running g.row.B.Denot g.row.B-Label.Denot g.row.M-State.Denot → Type 0 =
    λ v. ClocksWithin (MOST_CLOCK - 1) v.net in
    agent-low s.plan.now s.agents.items (map g.M.Node.node s.nodes.items) s.links.queues s.numbers
    (subst Low (sym c.self.view_is) c.requires.low) c.args.actor

pub to_agent-requires-clause-stamps : goal.to_agent-requires-clause-stamps
to_agent-requires-clause-stamps g c κs within =
    let s = c.self.inside in
    let Ends : Running g.row.B.Denot g.row.B-Label.Denot g.row.M-State.Denot → Type 0 =
    λ v. (from : ℕ) × IsLink v.plan c.args.link from c.args.actor in
    let ends = subst Ends (sym c.self.view_is) c.requires.ends in
    let Low : Running g.row.B.Denot g.row.B-Label.Denot g.row.M-State.Denot → Type 0 =
    λ v. ClocksWithin (MOST_CLOCK - 1) v.net in
    λ x q. packet-low (net_of s.agents.items (map g.M.Node.node s.nodes.items) s.links.queues s.numbers)
    (subst Low (sym c.self.view_is) c.requires.low) c.args.link x q
    (ends-there s.plan.now s.links.queues c.args.link ends.0 c.args.actor c.agents-agents.ensures.limits c.self.invariant.2 ends.1)

pub invariant_of-self-2 : goal.invariant_of-self-2
invariant_of-self-2 g c =
    let s = c.self.inside in
    let p = s.plan.now in
    let m = g.B.Body.meaning in
    let agents' = c.to_agent.new.agents.items in
    let links' = c.to_agent.new.links.queues in
    let kept = agents-kept p s.pick s.agents.items agents' s.links.queues links' _ _
    c.in_ok-made.made c.self.invariant.2 c.self.invariant.0
    (λ h. (
      agents-stay m p s.pick c.args.actor (ArrivesOn c.args.link) ((c.args.link, h.0) ∷ []) s.agents.items agents'
          s.links.queues links' c.self.invariant.0 h.1,
      h.1.tables.many,
    )) c.in_ok-made.ensures.made c.in_ok-made.ensures.stays in
    (kept.0, c.self.invariant.1, kept.1)

pub returns-clause-answers : goal.returns-clause-answers
returns-clause-answers g c =
    let s = c.self.inside in
    let p = s.plan.now in
    let m = g.B.Body.meaning in
    let met = g.met.M.Node in
    let nodes = map g.M.Node.node s.nodes.items in
    let agents' = c.to_agent.new.agents.items in
    let links' = c.to_agent.new.links.queues in
    let old = running p s.numbers.limit s.pick s.agents.items nodes s.links.queues s.numbers in
    let new = running p s.numbers.limit s.pick agents' nodes links' s.numbers in
    let Ends : Running g.row.B.Denot g.row.B-Label.Denot g.row.M-State.Denot → Type 0 =
    λ v. (c.args.actor < v.plan.agents) × ((from : ℕ) × IsLink v.plan c.args.link from c.args.actor) in
    let ends = subst Ends (sym c.self.view_is) (c.requires.agent, c.requires.ends) in
    subst (λ v. Answers m g.M.Node.machine g.M.Node.blank c.args.actor (Arrive c.args.link) v c.answer.result new) c.self.view_is
    (answers-by m g.M.Node.machine g.M.Node.blank c.args.actor (Arrive c.args.link) old new _ _ c.in_ok-made.made
    c.answer.result c.answer.ensures c.in_ok-made.ensures.made
    (stays-by-answer c.in_ok-made.made
    (same-running p s.numbers.limit s.pick s.agents.items agents' nodes s.links.queues links' s.numbers)
    c.in_ok-made.ensures.stays)
    (λ h. agent-steps m g.M.Node.machine g.M.Node.blank p s.numbers.limit s.pick c.args.actor (Arrive c.args.link)
    ((c.args.link, h.0) ∷ []) s.agents.items agents' nodes s.links.queues links' s.numbers c.agents-agents.ensures.limits
    c.self.invariant.2 c.self.invariant.0 (ends, tt) h.1)
    (none-arrives_nothing m g.M.Node.machine g.M.Node.blank met.tables p s.numbers.limit s.pick s.agents.items nodes
    s.links.queues s.numbers c.args.actor c.args.link))
