use Rattle.std.proofs.Common.{ℕ, ◌+◌, get_or, sym, subst}
use Rattle.std.specs.Prelude.{map}
use Rattle.std.proofs.lemmas.Option.{slice_get-get_or}
use Rattle.abc_shape.specs.Plans.{IsLink}
use Rattle.abc_world.specs.Listing.{Listed, CanMake, AreLinksInto, AreEmpty}
use Rattle.abc_world.specs.Runnings.{Running}
use Rattle.abc_world.proofs.Listings.{arrivals-next}
use Rattle.abc_world.proofs.Networked.{running, ends-there, each-there}
use Rattle.abc_world.proofs.network.Network.add_arrivals.Goals as goal

-- the link is there, since it ends at the actor
pub waits-waits-requires : goal.waits-waits-requires
waits-waits-requires g c =
    let s = c.self.inside in
    let Into : Running g.row.B.Denot g.row.B-Label.Denot g.row.M-State.Denot → Type 0 =
    λ v. AreLinksInto v.plan c.args.actor c.args.links.now in
    let into = subst Into (sym c.self.view_is) c.requires.into in
    let link = get_or c.args.links.now c.listing.place 0 in
    let stands = slice_get-get_or c.args.links.now c.listing.place 0 c.listing-test.true in
    let ends = each-there (λ v. (from : ℕ) × IsLink s.plan.now v from c.args.actor) c.args.links.now c.listing.place link into.end stands in
    record { there = ends-there s.plan.now s.links.queues link ends.0 c.args.actor c.agents-limits.ensures.limits c.self.invariant.2 ends.1 }

pub listing-preserved : goal.listing-preserved
listing-preserved g c =
    let s = c.self.inside in
    let m = g.B.Body.meaning in
    let machine = g.M.Node.machine in
    let blank = g.M.Node.blank in
    let place = c.listing.place in
    let links = c.args.links.now in
    let old = c.args.events.now.items in
    let mid = c.listing.events.items in
    let new = c.add_if.new.events.items in
    let n = running s.plan.now s.numbers.limit s.pick s.agents.items (map g.M.Node.node s.nodes.items) s.links.queues s.numbers in
    let Into : Running g.row.B.Denot g.row.B-Label.Denot g.row.M-State.Denot → Type 0 = λ v. AreLinksInto v.plan c.args.actor links in
    let into = subst Into (sym c.self.view_is) c.requires.into in
    let Was : Running g.row.B.Denot g.row.B-Label.Denot g.row.M-State.Denot → Type 0 =
    λ v. Listed (CanMake m machine blank v) (AreEmpty v links place) old mid in
    let Is : Running g.row.B.Denot g.row.B-Label.Denot g.row.M-State.Denot → Type 0 =
    λ v. Listed (CanMake m machine blank v) (AreEmpty v links (place + 1)) old new in
    let link = get_or links place 0 in
    let stands = slice_get-get_or links place 0 c.listing-test.true in
    let ends = each-there (λ v. (from : ℕ) × IsLink s.plan.now v from c.args.actor) links place link into.end stands in
    subst Is c.self.view_is
    (arrivals-next m machine blank n c.args.actor link place links old mid new c.waits-waits.result into stands
    (ends-there s.plan.now s.links.queues link ends.0 c.args.actor c.agents-limits.ensures.limits c.self.invariant.2 ends.1)
    c.waits-waits.ensures c.in_ok-add_if.ensures (subst Was (sym c.self.view_is) c.listing.invariant))
