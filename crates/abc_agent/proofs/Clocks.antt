-- Clocks of entries.
use Rattle.std.proofs.Common.{◌≡◌, ℕ, ◌<◌, List, [], ◌∷◌, ◌++◌, refl}
use Rattle.abc_packet.specs.declared.log.Deed.{Deed}
use Rattle.abc_packet.specs.declared.log.Deed.TheVariants.{Asked, Arrived, Took, Turned, Passed}
use Rattle.abc_packet.specs.declared.log.Deed.TheVariants.{Stray}
use Rattle.abc_packet.specs.declared.log.Entry.{Entry}
use Rattle.abc_packet.specs.Logs.{IsAfterPacket, last_clock}
use Rattle.abc_network.specs.Networks.{taken_clock}

-- A clock above that of the packet which a deed took is one for its entry.
pub after_packet : {L : Type 0} (clock : ℕ) (deed : Deed L) → taken_clock deed < clock →
    IsAfterPacket clock deed
after_packet clock Asked above = tt
after_packet clock (Arrived link stamped drew) above = above
after_packet clock (Took n place) above = tt
after_packet clock (Turned n place content) above = tt
after_packet clock (Passed n) above = tt
after_packet clock (Stray link stamped) above = above

-- Behind one more entry the last clock is that entry's.
pub last_clock_of_more : {L : Type 0} (low : ℕ) (entries : List (Entry L)) (e : Entry L) →
    last_clock low (entries ++ e ∷ []) ≡ e.clock
last_clock_of_more low [] e = refl
last_clock_of_more low (f ∷ entries) e = last_clock_of_more f.clock entries e
