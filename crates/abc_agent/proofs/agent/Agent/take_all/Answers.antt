use Rattle.std.proofs.Common.{refl, ◌∙◌}
use Rattle.std.proofs.lemmas.Bool.{MatchBool-at_true}
use Rattle.abc_agent.proofs.Leading.{has_links_again}
use Rattle.abc_agent.proofs.Taking.{takes_at_first, takes_one_more, same_links_again}
use Rattle.abc_agent.proofs.agent.Agent.take_all.Goals as goal

-- nothing is taken yet
pub taking-init : goal.taking-init
taking-init g c = record {
  takes = takes_at_first g.B.Body.meaning c.args.self.now (g.O.Outlet.lists c.args.outlet.now)
      (g.O.Outlet.lists c.args.outlet.now) (λ link. refl);
  links = λ link. (λ x. x, λ x. x);
  rest = refl;
}

-- the agent and the outlet's links are still those
pub take_or_turn-requires-clause-links : goal.take_or_turn-requires-clause-links
take_or_turn-requires-clause-links g c κs within =
    let so_far = c.taking.invariant in
    has_links_again c.args.self.now.plan c.taking.self.plan c.args.self.now.number c.taking.self.number
    (g.O.Outlet.has_link c.args.outlet.now) (g.O.Outlet.has_link c.taking.outlet) so_far.takes.member.plan
    so_far.takes.member.number so_far.links c.requires.links

-- one more is taken or turned
pub taking-preserved : goal.taking-preserved
taking-preserved g c =
    let so_far = c.taking.invariant in
    let step = c.take_or_turn.ensures in
    let lists = g.O.Outlet.lists in
    let has = g.O.Outlet.has_link in
    let made = MatchBool-at_true _ _ c.if-branch.true c.in_ok-take_or_turn.ensures.made in
    record {
      takes = takes_one_more g.B.Body.meaning c.args.self.now c.taking.self c.take_or_turn.new.self
          (lists c.args.outlet.now) (lists c.taking.outlet) (lists c.take_or_turn.new.outlet) so_far.takes step.member made;
      links = same_links_again (has c.args.outlet.now) (has c.taking.outlet) (has c.take_or_turn.new.outlet) so_far.links
          step.links;
      rest = step.rest ∙ so_far.rest;
    }
