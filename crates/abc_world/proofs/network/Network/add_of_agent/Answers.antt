use Rattle.std.proofs.Common.{◌≡◌, ◌<◌, List, length, sym, subst}
use Rattle.std.specs.Prelude.{MatchBool, Some, map, slice_get}
use Rattle.std.proofs.lemmas.Result.{on_ok_weaker}
use Rattle.abc_agent.specs.Members.{Member}
use Rattle.abc_agent.specs.Conditions.{CanAsk, CanTake, CanTurn}
use Rattle.abc_world.specs.Listing.{Listed, CanMake, Rests, AreLinksInto, AreEmpty}
use Rattle.abc_world.specs.Runnings.{Running}
use Rattle.abc_world.proofs.Resting.{agent-listed}
use Rattle.abc_world.proofs.network.Network.add_of_agent.Goals as goal

pub returns : goal.returns
returns g c =
    let s = c.self.inside in
    let m = g.B.Body.meaning in
    let machine = g.M.Node.machine in
    let blank = g.M.Node.blank in
    let actor = c.args.actor in
    let links = c.args.links.now in
    let e0 = c.args.events.now.items in
    let e1 = c.add_if.new.events.items in
    let e2 = c.add_arrivals.new.events.items in
    let e3 = c.add_if-2.new.events.items in
    let e4 = c.add_if-3.new.events.items in
    let nodes = map g.M.Node.node s.nodes.items in
    let Below : Running g.row.B.Denot g.row.B-Label.Denot g.row.M-State.Denot → Type 0 = λ v. actor < v.plan.agents in
    let Into : Running g.row.B.Denot g.row.B-Label.Denot g.row.M-State.Denot → Type 0 = λ v. AreLinksInto v.plan actor links in
    let Comes : Running g.row.B.Denot g.row.B-Label.Denot g.row.M-State.Denot → Type 0 =
    λ v. Listed (CanMake m machine blank v) (AreEmpty v links (length links)) e1 e2 in
    let Is : Running g.row.B.Denot g.row.B-Label.Denot g.row.M-State.Denot → Type 0 =
    λ v. Listed (CanMake m machine blank v) (Rests m machine blank v actor) e0 e4 in
    let Asks : List (Member g.row.B.Denot g.row.B-Label.Denot) → Type 0 = λ v. MatchBool c.can_ask-asks.result
    ((a : Member g.row.B.Denot g.row.B-Label.Denot) → slice_get v actor ≡ Some a → CanAsk m a.actor.state)
    ((a : Member g.row.B.Denot g.row.B-Label.Denot) → slice_get v actor ≡ Some a → CanAsk m a.actor.state → ⊥) in
    let Takes : List (Member g.row.B.Denot g.row.B-Label.Denot) → Type 0 = λ v. MatchBool c.can_take-takes.result
    ((a : Member g.row.B.Denot g.row.B-Label.Denot) → slice_get v actor ≡ Some a → CanTake a.actor.state)
    ((a : Member g.row.B.Denot g.row.B-Label.Denot) → slice_get v actor ≡ Some a → CanTake a.actor.state → ⊥) in
    let Turns : List (Member g.row.B.Denot g.row.B-Label.Denot) → Type 0 = λ v. MatchBool c.can_turn-turns.result
    ((a : Member g.row.B.Denot g.row.B-Label.Denot) → slice_get v actor ≡ Some a → CanTurn a.actor.state)
    ((a : Member g.row.B.Denot g.row.B-Label.Denot) → slice_get v actor ≡ Some a → CanTurn a.actor.state → ⊥) in
    on_ok_weaker c.add_if-3.result (λ grown. subst Is c.self.view_is
    (agent-listed m machine blank s.plan.now s.numbers.limit s.pick s.agents.items nodes s.links.queues s.numbers actor links
    c.can_ask-asks.result c.can_take-takes.result c.can_turn-turns.result e0 e1 e2 e3 e4 c.self.invariant.0
    (subst Below (sym c.self.view_is) c.requires.agent) (subst Into (sym c.self.view_is) c.requires.into)
    (subst Asks c.as_slice.ensures.value c.can_ask-asks.ensures.can)
    (subst Takes c.as_slice-2.ensures.value c.can_take-takes.ensures.can)
    (subst Turns c.as_slice-3.ensures.value c.can_turn-turns.ensures.can)
    c.in_ok-add_if.ensures (subst Comes (sym c.self.view_is) c.in_ok-add_arrivals.ensures) c.in_ok-add_if-2.ensures grown))
    c.add_if-3.ensures
