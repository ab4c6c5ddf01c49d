-- What one entry more does to a log.
use Rattle.std.proofs.Common.{◌≡◌, ℕ, ◌+◌, ◌<◌, ◌≤◌, max, List, [], ◌∷◌, ◌++◌, length, refl, arith, ap, add_assoc, ◌∙◌, sym}
use Rattle.abc_packet.specs.declared.log.Deed.{Deed}
use Rattle.abc_packet.specs.declared.log.Deed.TheVariants.{Asked, Arrived, Took, Turned, Passed, Stray}
use Rattle.abc_packet.specs.declared.log.Entry.{Entry}
use Rattle.abc_packet.specs.Logs.{IsAfterPacket, last_clock}
use Rattle.abc_network.specs.Networks.{taken_clock}
use Rattle.abc_logs.specs.MicroSteps.{taken_by}
use Rattle.abc_history.specs.Histories.{arrivals_in}

-- A clock above both that of the actor and that of the packet is above the packet's.
pub above_packet : {L : Type 0} (clock before : ℕ) (deed : Deed L) → clock ≡ max before (taken_clock deed) + 1 → IsAfterPacket clock deed
above_packet clock before Asked e = tt
above_packet clock before (Arrived link stamped drew) e = omega arith
above_packet clock before (Took n place) e = tt
above_packet clock before (Turned n place content) e = tt
above_packet clock before (Passed n) e = tt
above_packet clock before (Stray link stamped) e = omega arith

-- The last clock of a log that gains an entry is that entry's.
pub last_clock-push : {L : Type 0} (low : ℕ) (log : List (Entry L)) (e : Entry L) → last_clock low (log ++ e ∷ []) ≡ e.clock
last_clock-push low [] e = refl
last_clock-push low (x ∷ log) e = last_clock-push x.clock log e

-- Its arrivals are those before and the entry's.
pub arrivals_in-push : {L : Type 0} (log : List (Entry L)) (e : Entry L) → arrivals_in (log ++ e ∷ []) ≡ arrivals_in log + length (taken_by e.deed)
arrivals_in-push [] e = omega arith
arrivals_in-push (x ∷ log) e = omega (arith, arrivals_in-push log e)

-- The facts that noting a deed needs.
pub ruleset noting = (above_packet, last_clock-push, arrivals_in-push)
