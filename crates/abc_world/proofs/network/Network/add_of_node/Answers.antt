use Rattle.std.proofs.Common.{◌≡◌, ◌+◌, ◌-◌, ◌<◌, ◌≤◌, List, length, sym, subst, arith}
use Rattle.std.specs.Prelude.{MatchBool, Some, slice_get}
use Rattle.std.proofs.lemmas.Result.{on_ok_weaker}
use Rattle.abc_world.specs.Listing.{Listed, CanMake, Rests, AreLinksInto, AreEmpty}
use Rattle.abc_world.specs.Runnings.{Running}
use Rattle.abc_world.proofs.Seated.{length-map}
use Rattle.abc_world.proofs.Resting.{node-listed}
use Rattle.abc_world.proofs.network.Network.add_of_node.Goals as goal

pub returns : goal.returns
returns g c =
    let s = c.self.inside in
    let p = s.plan.now in
    let m = g.B.Body.meaning in
    let machine = g.M.Node.machine in
    let blank = g.M.Node.blank in
    let f = g.M.Node.node in
    let actor = c.args.actor in
    let k = actor - c.agents.result in
    let links = c.args.links.now in
    let e0 = c.args.events.now.items in
    let e1 = c.add_arrivals.new.events.items in
    let e2 = c.add_if.new.events.items in
    let There : Running g.row.B.Denot g.row.B-Label.Denot g.row.M-State.Denot → Type 0 =
    λ v. (v.plan.agents ≤ actor) × (actor < v.plan.agents + v.plan.nodes) in
    let Into : Running g.row.B.Denot g.row.B-Label.Denot g.row.M-State.Denot → Type 0 = λ v. AreLinksInto v.plan actor links in
    let Comes : Running g.row.B.Denot g.row.B-Label.Denot g.row.M-State.Denot → Type 0 =
    λ v. Listed (CanMake m machine blank v) (AreEmpty v links (length links)) e0 e1 in
    let Is : Running g.row.B.Denot g.row.B-Label.Denot g.row.M-State.Denot → Type 0 =
    λ v. Listed (CanMake m machine blank v) (Rests m machine blank v actor) e0 e2 in
    let Passes : List g.row.M.Denot → Type 0 = λ v. MatchBool c.can_pass-passes.result
    ((n : g.row.M.Denot) → slice_get v k ≡ Some n → (machine (f n).plan).can_pass (f n).actor.state)
    ((n : g.row.M.Denot) → slice_get v k ≡ Some n → (machine (f n).plan).can_pass (f n).actor.state → ⊥) in
    let there = subst There (sym c.self.view_is) (c.requires.node, c.requires.there) in
    let above = there.0 in
    let below = there.1 in
    let count = c.agents.ensures.number in
    let many = c.self.invariant.1.many in
    let mapped = length-map f s.nodes.items in
    let is : p.agents + k ≡ actor = omega arith in
    let within : k < length s.nodes.items = omega arith in
    on_ok_weaker c.add_if.result (λ grown. subst Is c.self.view_is
    (node-listed f m machine blank p s.numbers.limit s.pick s.agents.items s.nodes.items s.links.queues s.numbers actor k links
    c.can_pass-passes.result e0 e1 e2 c.self.invariant.0 c.self.invariant.1 above is within
    (subst Into (sym c.self.view_is) c.requires.into) (subst Passes c.as_slice.ensures.value c.can_pass-passes.ensures.can)
    (subst Comes (sym c.self.view_is) c.in_ok-add_arrivals.ensures) grown))
    c.add_if.ensures
