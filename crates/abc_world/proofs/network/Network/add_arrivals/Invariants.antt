use Rattle.abc_world.specs.Listing.{Listed, CanMake, AreEmpty}
use Rattle.abc_world.proofs.network.Network.add_arrivals.Given as goal

abbrev pub invariant-listing : goal.invariant-listing
invariant-listing g l =
    Listed (CanMake g.B.Body.meaning g.M.Node.machine g.M.Node.blank l.self) (AreEmpty l.self l.links l.place)
    l.initial.events.items l.events.items
