use Rattle.std.proofs.Common.{◌≡◌, ℕ, ◌+◌, ◌-◌, ◌≤◌, [], ◌∷◌, refl, sym, subst, arith}
use Rattle.std.specs.Prelude.{map}
use Rattle.abc_packet.specs.declared.limits.TheConstants.{MOST_CLOCK}
use Rattle.abc_shape.specs.Plans.{IsLink, actor_of}
use Rattle.abc_schedule.specs.Laws.{ClocksWithin}
use Rattle.abc_world.specs.declared.event.EventKind.TheVariants.{Arrive}
use Rattle.abc_world.specs.Kinds.{ArrivesOn}
use Rattle.abc_world.specs.Runnings.{Answers, Running}
use Rattle.abc_world.proofs.Among.{stays-by-answer}
use Rattle.abc_world.proofs.Staying.{nodes-stay}
use Rattle.abc_world.proofs.Stepping.{node-steps, drew-next}
use Rattle.abc_world.proofs.Lacking.{none-arrives_nothing}
use Rattle.abc_world.proofs.Networked.{node-low, node-leads, nodes-kept, answers-by, running, same-nodes}
use Rattle.abc_world.proofs.network.Network.arrive_at_node.Goals as goal

pub to_node-requires-clause-leads : goal.to_node-requires-clause-leads
to_node-requires-clause-leads g c =
    let s = c.self.inside in
    node-leads g.M.Node.node s.plan.now s.agents.items s.nodes.items s.links.queues s.numbers
    c.agents.ensures.limits c.self.invariant.2 c.self.invariant.1 _

pub to_node-requires-clause-clock : goal.to_node-requires-clause-clock
to_node-requires-clause-clock g c =
    let s = c.self.inside in
    let Low : Running g.row.B.Denot g.row.B-Label.Denot g.row.M-State.Denot → Type 0 =
    λ v. ClocksWithin (MOST_CLOCK - 1) v.net in
    node-low g.M.Node.node s.plan.now s.agents.items s.nodes.items s.links.queues s.numbers
    (subst Low (sym c.self.view_is) c.requires.low) _

pub invariant_of-self-2 : goal.invariant_of-self-2
invariant_of-self-2 g c =
    let s = c.self.inside in
    let p = s.plan.now in
    let nodes = map g.M.Node.node s.nodes.items in
    let nodes' = map g.M.Node.node c.to_node.new.nodes.items in
    let links' = c.to_node.new.links.queues in
    let kept = nodes-kept p nodes nodes' s.links.queues links' _ _ c.in_ok-made.made c.self.invariant.2 c.self.invariant.1
    (λ h. (
      nodes-stay g.M.Node.machine p _ (ArrivesOn c.args.link) ((c.args.link, h.0) ∷ []) nodes nodes' s.links.queues
          links' s.numbers c.to_node.new.numbers c.self.invariant.1 h.1,
      h.1.tables.many,
    )) c.in_ok-made.ensures.made
    (stays-by-answer c.in_ok-made.made (λ h. (h.0, h.2)) c.in_ok-made.ensures.stays) in
    (c.self.invariant.0, kept.0, kept.1)

pub returns-clause-answers : goal.returns-clause-answers
returns-clause-answers g c =
    let s = c.self.inside in
    let p = s.plan.now in
    let m = g.B.Body.meaning in
    let met = g.met.M.Node in
    let nodes = map g.M.Node.node s.nodes.items in
    let nodes' = map g.M.Node.node c.to_node.new.nodes.items in
    let links' = c.to_node.new.links.queues in
    let numbers' = c.to_node.new.numbers in
    let k = c.args.actor - c.agents.result in
    let old = running p s.numbers.limit s.pick s.agents.items nodes s.links.queues s.numbers in
    let new = running p numbers'.limit s.pick s.agents.items nodes' links' numbers' in
    let Ends : Running g.row.B.Denot g.row.B-Label.Denot g.row.M-State.Denot → Type 0 =
    λ v. (v.plan.agents ≤ c.args.actor) × ((from : ℕ) × IsLink v.plan c.args.link from c.args.actor) in
    let ends = subst Ends (sym c.self.view_is) (c.requires.node, c.requires.ends) in
    let count = c.agents.ensures.number in
    let beyond : p.agents ≤ c.args.actor = ends.0 in
    let is : p.agents + k ≡ c.args.actor = omega arith in
    let from : (j : ℕ) × IsLink p c.args.link j (actor_of p k) =
    (ends.1.0, subst (λ v. IsLink p c.args.link ends.1.0 v) (sym is) ends.1.1) in
    subst (λ v. Answers m g.M.Node.machine g.M.Node.blank c.args.actor (Arrive c.args.link) v c.answer.result new)
    c.self.view_is
    (subst (λ v. Answers m g.M.Node.machine g.M.Node.blank v (Arrive c.args.link) old c.answer.result new) is
    (answers-by m g.M.Node.machine g.M.Node.blank (actor_of p k) (Arrive c.args.link) old new _ _ c.in_ok-made.made
    c.answer.result c.answer.ensures c.in_ok-made.ensures.made
    (stays-by-answer c.in_ok-made.made
    (same-nodes p s.pick s.agents.items nodes nodes' s.links.queues links' s.numbers numbers') c.in_ok-made.ensures.stays)
    (λ h. node-steps m g.M.Node.machine g.M.Node.blank p s.numbers.limit s.pick k (Arrive c.args.link)
    ((c.args.link, h.0) ∷ []) s.agents.items nodes nodes' s.links.queues links' s.numbers numbers'
    c.agents.ensures.limits c.self.invariant.2 refl c.self.invariant.1 (from, tt) h.1
    (drew-next s.numbers numbers' _ c.count-count.ensures.all h.1.draws))
    (none-arrives_nothing m g.M.Node.machine g.M.Node.blank met.tables p s.numbers.limit s.pick s.agents.items nodes
    s.links.queues s.numbers (actor_of p k) c.args.link)))
