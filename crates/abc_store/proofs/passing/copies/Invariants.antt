use Rattle.std.proofs.Common.{◌≡◌, take}
use Rattle.abc_packet.specs.declared.packets.Packet.TheVariants.{Message}
use Rattle.abc_network.specs.Stores.{to_each}
use Rattle.abc_logs.specs.MicroSteps.{stamped_with}
use Rattle.abc_store.proofs.passing.copies.Given as goal

abbrev pub invariant-copying : goal.invariant-copying
invariant-copying g l =
    l.ready.items ≡ stamped_with l.clock (to_each (take l.link-index l.links) (Message l.number l.parcel.sender l.parcel.content))
