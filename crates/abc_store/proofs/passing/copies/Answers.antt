use Rattle.std.proofs.Common.{refl}
use Rattle.abc_packet.specs.declared.packets.Packet.TheVariants.{Message}
use Rattle.abc_store.proofs.Readying.{copies-more}
use Rattle.abc_store.proofs.passing.copies.Goals as goal

-- one copy more is made
pub copying-preserved : goal.copying-preserved
copying-preserved g c =
    copies-more c.args.clock c.copying.link-index _ c.args.links.now
    (Message c.args.number c.args.parcel.now.sender c.args.parcel.now.content) c.in_ok-stamped.stamped
    c.copying.ready.items c.push_back.new.self.items c.copying.invariant c.in_ok-push_back.ensures.items
    c.in_ok-stamped.ensures c.copying-test.true refl
