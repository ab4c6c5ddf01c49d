-- A log that gains a later entry still rises.
use Rattle.std.proofs.Common.{ℕ, ◌<◌, List, [], ◌∷◌, ◌++◌}
use Rattle.abc_packet.specs.declared.log.Entry.{Entry}
use Rattle.abc_packet.specs.Logs.{IsAfterPacket, Rise, last_clock}

-- One entry more, whose clock is above the last one's and above its packet's.
pub rise_after_push : {L : Type 0} (low : ℕ) (es : List (Entry L)) (e : Entry L) →
    Rise low es → last_clock low es < e.clock → IsAfterPacket e.clock e.deed → Rise low (es ++ e ∷ [])
rise_after_push low [] e rise later above = (later, above, tt)
rise_after_push low (x ∷ es) e rise later above = (rise.0, rise.1, rise_after_push x.clock es e rise.2 later above)
