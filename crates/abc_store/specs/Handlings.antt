-- What a node does with a request or a reply, by the rows of its kind.
use Rattle.std.specs.Prelude.{◌≡◌, ℕ, List, [], ◌∷◌, Option, Some, None}
use Rattle.abc_value.specs.declared.grant.Grant.{Grant}
use Rattle.abc_packet.specs.declared.packets.Packet.{Packet}
use Rattle.abc_packet.specs.declared.packets.Packet.TheVariants.{Request, Reply}
use Rattle.abc_network.specs.Stores.{StoreKind}
use Rattle.abc_store.specs.declared.handling.Handling.{Handling}
use Rattle.abc_store.specs.declared.handling.Handling.TheVariants.{Answers, SendsOn, Nothing}

-- It does so by a row: whatever it draws for a request, it replies with that to the agent; or it
-- draws nothing, and sends the same packet on; or there is no row.
abbrev pub IsHandled : {L : Type 0} → StoreKind L → ℕ → ℕ → Packet L → Handling → Type 0
IsHandled g k l packet (Answers agent back) =
    (packet ≡ Request agent)
    × ((grant : Grant) → g.asking k l packet (Some grant) ((back, Reply agent grant) ∷ []))
IsHandled g k l packet (SendsOn on) = g.asking k l packet None ((on, packet) ∷ [])
IsHandled {L} g k l packet Nothing =
    (drew : Option Grant) (out : List (ℕ × Packet L)) → g.asking k l packet drew out → ⊥

-- What it sends leaves on one of these links.
abbrev pub LeavesOn : (ℕ → Type 0) → Handling → Type 0
LeavesOn leaves (Answers agent back) = leaves back
LeavesOn leaves (SendsOn on) = leaves on
LeavesOn leaves Nothing = Unit {0}
