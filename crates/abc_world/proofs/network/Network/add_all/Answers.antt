use Rattle.std.proofs.Common.{ℕ, ◌<◌, sym, subst, arith}
use Rattle.std.specs.Prelude.{map}
use Rattle.abc_world.specs.InLinks.{AreInLinks}
use Rattle.abc_world.specs.Listing.{Listed, CanMake, Rests, IsStillIn}
use Rattle.abc_world.specs.Runnings.{Running}
use Rattle.abc_world.proofs.Listings.{listed-next, listed-as}
use Rattle.abc_world.proofs.Stilled.{rests-still}
use Rattle.abc_world.proofs.network.Network.add_all.Goals as goal

-- one actor more was looked at
pub listing-preserved : goal.listing-preserved
listing-preserved g c =
    let n = c.args.self.now in
    listed-next (CanMake g.B.Body.meaning g.M.Node.machine g.M.Node.blank n)
    (Rests g.B.Body.meaning g.M.Node.machine g.M.Node.blank n) c.listing.actor c.args.events.now.items c.listing.events.items
    c.add_of.new.events.items c.listing.invariant c.in_ok-add_of.ensures

-- where all rest the network is still
pub returns : goal.returns
returns g c =
    let s = c.self.inside in
    let m = g.B.Body.meaning in
    let machine = g.M.Node.machine in
    let blank = g.M.Node.blank in
    let old = c.args.events.now.items in
    let new = c.listing.events.items in
    let count = c.agents.ensures.number in
    let nodes = c.nodes.ensures.number in
    let past = c.listing-test.false in
    let In : Running g.row.B.Denot g.row.B-Label.Denot g.row.M-State.Denot → Type 0 = λ v. AreInLinks v.plan c.args.in_links.now in
    let Was : Running g.row.B.Denot g.row.B-Label.Denot g.row.M-State.Denot → Type 0 =
    λ v. Listed (CanMake m machine blank v) ((i : ℕ) → i < c.listing.actor → Rests m machine blank v i) old new in
    let Is : Running g.row.B.Denot g.row.B-Label.Denot g.row.M-State.Denot → Type 0 =
    λ v. Listed (CanMake m machine blank v) (IsStillIn m machine blank v) old new in
    let ins = subst In (sym c.self.view_is) c.requires.links in
    subst Is c.self.view_is
    (listed-as _ _ _ old new
    (λ h. rests-still m machine blank s.plan.now s.numbers.limit s.pick s.agents.items (map g.M.Node.node s.nodes.items)
    s.links.queues s.numbers ins.ends c.agents.ensures.limits ins.are c.self.invariant.2 c.self.invariant.0 c.self.invariant.1
    (λ i below. h i (omega arith)))
    (subst Was (sym c.self.view_is) c.listing.invariant))
