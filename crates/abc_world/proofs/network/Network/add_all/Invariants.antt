use Rattle.std.proofs.Common.{ℕ, ◌<◌}
use Rattle.abc_world.specs.Listing.{Listed, CanMake, Rests}
use Rattle.abc_world.proofs.network.Network.add_all.Given as goal

abbrev pub invariant-listing : goal.invariant-listing
invariant-listing g l =
    Listed (CanMake g.B.Body.meaning g.M.Node.machine g.M.Node.blank l.self)
    ((i : ℕ) → i < l.actor → Rests g.B.Body.meaning g.M.Node.machine g.M.Node.blank l.self i)
    l.initial.events.items l.events.items
