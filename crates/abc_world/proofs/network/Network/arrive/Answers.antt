use Rattle.std.proofs.Common.{ℕ, refl, subst}
use Rattle.std.specs.Prelude.{map}
use Rattle.abc_shape.specs.Plans.{IsLink}
use Rattle.abc_world.specs.Runnings.{Running}
use Rattle.abc_world.proofs.Lacking.{none-arrives_elsewhere}
use Rattle.abc_world.proofs.network.Network.arrive.Goals as goal

-- nothing arrives at an actor where the link doesn't end
pub returns-then-not-ends_at-clause-answers : goal.returns-then-not-ends_at-clause-answers
returns-then-not-ends_at-clause-answers g c =
    let s = c.self.inside in
    let met = g.met.M.Node in
    rw (← c.self.view_is) (
      none-arrives_elsewhere g.B.Body.meaning g.M.Node.machine g.M.Node.blank met.tables s.plan.now s.numbers.limit s.pick
          s.agents.items (map g.M.Node.node s.nodes.items) s.links.queues s.numbers c.args.actor c.args.link
          c.if-not-ends_at.ensures,
      refl,
    )

pub arrive_at_agent-requires-clause-ends : goal.arrive_at_agent-requires-clause-ends
arrive_at_agent-requires-clause-ends g c κs within =
    let Ends : Running g.row.B.Denot g.row.B-Label.Denot g.row.M-State.Denot → Type 0 =
    λ v. (from : ℕ) × IsLink v.plan c.args.link from c.args.actor in
    subst Ends c.self.view_is c.if-not-ends_at.ensures

pub arrive_at_node-requires-clause-ends : goal.arrive_at_node-requires-clause-ends
arrive_at_node-requires-clause-ends g c κs within =
    let Ends : Running g.row.B.Denot g.row.B-Label.Denot g.row.M-State.Denot → Type 0 =
    λ v. (from : ℕ) × IsLink v.plan c.args.link from c.args.actor in
    subst Ends c.self.view_is c.if-not-ends_at.ensures
