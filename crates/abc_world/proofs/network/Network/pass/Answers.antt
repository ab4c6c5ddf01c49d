use Rattle.std.proofs.Common.{◌≡◌, ◌+◌, ◌-◌, [], refl, sym, subst, arith}
use Rattle.std.specs.Prelude.{map}
use Rattle.abc_packet.specs.declared.limits.TheConstants.{MOST_CLOCK}
use Rattle.abc_shape.specs.Plans.{actor_of}
use Rattle.abc_schedule.specs.Laws.{ClocksWithin}
use Rattle.abc_world.specs.declared.event.EventKind.TheVariants.{Pass}
use Rattle.abc_world.specs.Kinds.{IsPass}
use Rattle.abc_world.specs.Runnings.{Answers, Running}
use Rattle.abc_world.proofs.Among.{stays-by-answer}
use Rattle.abc_world.proofs.Staying.{nodes-stay}
use Rattle.abc_world.proofs.Stepping.{node-steps, pass-next}
use Rattle.abc_world.proofs.Lacking.{none-passes}
use Rattle.abc_world.proofs.Networked.{node-low, node-leads, nodes-kept, answers-by, running, same-nodes, passes-not, nothing-past}
use Rattle.abc_world.proofs.network.Network.pass.Goals as goal

-- no agent passes a message on
pub returns-then-actor-agents-clause-answers : goal.returns-then-actor-agents-clause-answers
returns-then-actor-agents-clause-answers g c =
    let s = c.self.inside in
    let p = s.plan.now in
    let met = g.met.M.Node in
    let count = c.agents-agents.ensures.number in
    let few = c.if-actor-agents.true in
    rw (← c.self.view_is) (
      none-passes g.B.Body.meaning g.M.Node.machine g.M.Node.blank met.tables p s.numbers.limit s.pick s.agents.items
          (map g.M.Node.node s.nodes.items) s.links.queues s.numbers c.args.actor
          (λ k n is at can. (let e : p.agents + k ≡ c.args.actor = is in absurd (omega arith))),
      refl,
    )

-- past the last node nobody does
pub returns-then-node-nodes-clause-answers : goal.returns-then-node-nodes-clause-answers
returns-then-node-nodes-clause-answers g c =
    let s = c.self.inside in
    let p = s.plan.now in
    let met = g.met.M.Node in
    let count = c.agents-agents.ensures.number in
    let few = c.if-actor-agents.false in
    let number = c.nodes.ensures.number in
    let past = c.if-node-nodes.true in
    let nodes = map g.M.Node.node s.nodes.items in
    rw (← c.self.view_is) (
      none-passes g.B.Body.meaning g.M.Node.machine g.M.Node.blank met.tables p s.numbers.limit s.pick s.agents.items
          nodes s.links.queues s.numbers c.args.actor
          (λ k n is at can. (let e : p.agents + k ≡ c.args.actor = is in
          nothing-past nodes k p.nodes n c.self.invariant.1.many (omega arith) at)),
      refl,
    )

pub pass-requires-clause-leads : goal.pass-requires-clause-leads
pass-requires-clause-leads g c =
    let s = c.self.inside in
    node-leads g.M.Node.node s.plan.now s.agents.items s.nodes.items s.links.queues s.numbers
    c.agents-agents.ensures.limits c.self.invariant.2 c.self.invariant.1 _

pub pass-requires-clause-clock : goal.pass-requires-clause-clock
pass-requires-clause-clock g c =
    let s = c.self.inside in
    let Low : Running g.row.B.Denot g.row.B-Label.Denot g.row.M-State.Denot → Type 0 =
    λ v. ClocksWithin (MOST_CLOCK - 1) v.net in
    node-low g.M.Node.node s.plan.now s.agents.items s.nodes.items s.links.queues s.numbers
    (subst Low (sym c.self.view_is) c.requires.low) _

pub invariant_of-self-2 : goal.invariant_of-self-2
invariant_of-self-2 g c =
    let s = c.self.inside in
    let p = s.plan.now in
    let nodes = map g.M.Node.node s.nodes.items in
    let nodes' = map g.M.Node.node c.pass.new.nodes.items in
    let links' = c.pass.new.links.queues in
    let kept = nodes-kept p nodes nodes' s.links.queues links' _ _ c.in_ok-made.made c.self.invariant.2 c.self.invariant.1
    (λ h. (
      nodes-stay g.M.Node.machine p _ IsPass [] nodes nodes' s.links.queues links' s.numbers s.numbers
          c.self.invariant.1 (h s.numbers),
      (h s.numbers).tables.many,
    )) c.in_ok-made.ensures.made c.in_ok-made.ensures.stays in
    (c.self.invariant.0, kept.0, kept.1)

pub returns-clause-answers : goal.returns-clause-answers
returns-clause-answers g c =
    let s = c.self.inside in
    let p = s.plan.now in
    let m = g.B.Body.meaning in
    let met = g.met.M.Node in
    let nodes = map g.M.Node.node s.nodes.items in
    let nodes' = map g.M.Node.node c.pass.new.nodes.items in
    let links' = c.pass.new.links.queues in
    let k = c.args.actor - c.agents-agents.result in
    let old = running p s.numbers.limit s.pick s.agents.items nodes s.links.queues s.numbers in
    let new = running p s.numbers.limit s.pick s.agents.items nodes' links' s.numbers in
    let count = c.agents-agents.ensures.number in
    let few = c.if-actor-agents.false in
    let is : p.agents + k ≡ c.args.actor = omega arith in
    subst (λ v. Answers m g.M.Node.machine g.M.Node.blank c.args.actor Pass v c.answer.result new) c.self.view_is
    (subst (λ v. Answers m g.M.Node.machine g.M.Node.blank v Pass old c.answer.result new) is
    (answers-by m g.M.Node.machine g.M.Node.blank (actor_of p k) Pass old new _ _ c.in_ok-made.made c.answer.result
    c.answer.ensures c.in_ok-made.ensures.made
    (stays-by-answer c.in_ok-made.made
    (λ h. same-nodes p s.pick s.agents.items nodes nodes' s.links.queues links' s.numbers s.numbers (h.0, refl, h.1))
    c.in_ok-made.ensures.stays)
    (λ h. node-steps m g.M.Node.machine g.M.Node.blank p s.numbers.limit s.pick k Pass [] s.agents.items nodes nodes'
    s.links.queues links' s.numbers s.numbers c.agents-agents.ensures.limits c.self.invariant.2 refl c.self.invariant.1 tt
    (h s.numbers) (pass-next s.numbers.limit _ (h s.numbers).made.entry.deed (h s.numbers).is))
    (λ cannot. none-passes m g.M.Node.machine g.M.Node.blank met.tables p s.numbers.limit s.pick s.agents.items nodes
    s.links.queues s.numbers (actor_of p k)
    (passes-not g.M.Node.node g.M.Node.machine p s.nodes.items (actor_of p k) k c.self.invariant.1 refl cannot))))
