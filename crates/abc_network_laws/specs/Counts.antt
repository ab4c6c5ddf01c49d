-- What deeds and packets say of numbers.
use Rattle.std.specs.Prelude.{ℕ, ◌==◌, List, [], ◌∷◌, ◌++◌, Option, Some, None, if◌then◌else◌}
use Rattle.abc_value.specs.declared.grant.Grant.{Grant}
use Rattle.abc_value.specs.declared.grant.Grant.TheVariants.{Number, Closed}
use Rattle.abc_packet.specs.declared.packets.Content.{Content}
use Rattle.abc_packet.specs.declared.packets.Packet.{Packet}
use Rattle.abc_packet.specs.declared.packets.Packet.TheVariants.{Request, Reply, Message}
use Rattle.abc_packet.specs.declared.log.Deed.{Deed}
use Rattle.abc_packet.specs.declared.log.Deed.TheVariants.{Asked, Arrived, Took, Turned, Passed}
use Rattle.abc_packet.specs.declared.log.Deed.TheVariants.{Stray}
use Rattle.abc_network.specs.Numbering.{Turn}

-- The packet that a deed takes from a link.
abbrev pub taken_packets : {L : Type 0} → Deed L → List (Packet L)
taken_packets Asked = []
taken_packets (Arrived link stamped drew) = stamped.packet ∷ []
taken_packets (Stray link stamped) = stamped.packet ∷ []
taken_packets (Took n place) = []
taken_packets (Turned n place content) = []
taken_packets (Passed n) = []

-- 1 where the grant is this number.
abbrev pub grants_number : ℕ → Grant → ℕ
grants_number n (Number k) = if k == n then 1 else 0
grants_number n Closed = 0

-- 1 where the packet is a reply with this number.
abbrev pub replies_number : {L : Type 0} → ℕ → Packet L → ℕ
replies_number n (Request agent) = 0
replies_number n (Reply agent grant) = grants_number n grant
replies_number n (Message k sender content) = 0

-- 1 where this number was drawn.
abbrev pub draws_number : ℕ → Option Grant → ℕ
draws_number n None = 0
draws_number n (Some grant) = grants_number n grant

-- P holds of what a message says; of other packets nothing is said.
abbrev pub IfMessage : {L : Type 0} → (ℕ → ℕ → Content L → Type 0) → Packet L → Type 0
IfMessage P (Request agent) = Unit {0}
IfMessage P (Reply agent grant) = Unit {0}
IfMessage P (Message n sender content) = P n sender content

-- 1 where the deed turns this number.
abbrev pub turns_number : {L : Type 0} → ℕ → Deed L → ℕ
turns_number n (Turned k place content) = if k == n then 1 else 0
turns_number n Asked = 0
turns_number n (Arrived link stamped drew) = 0
turns_number n (Stray link stamped) = 0
turns_number n (Took k place) = 0
turns_number n (Passed k) = 0

-- The turns after a deed of agent i,
abbrev pub with_turn : {L : Type 0} → List (Turn L) → ℕ → Deed L → List (Turn L)
with_turn ts i (Turned n place content) =
    ts ++ record { sender = i; place = place; content = content } ∷ []
with_turn ts i Asked = ts
with_turn ts i (Arrived link stamped drew) = ts
with_turn ts i (Stray link stamped) = ts
with_turn ts i (Took n place) = ts
with_turn ts i (Passed n) = ts

-- and the places of its log.
abbrev pub with_place : {L : Type 0} → List (Option ℕ) → Deed L → List (Option ℕ)
with_place ps (Turned n place content) = ps ++ place ∷ []
with_place ps (Took n place) = ps ++ place ∷ []
with_place ps Asked = ps
with_place ps (Arrived link stamped drew) = ps
with_place ps (Stray link stamped) = ps
with_place ps (Passed n) = ps

-- P, where the deed is a turn.
abbrev pub IfTurned : {L : Type 0} → Deed L → Type 0 → Type 0
IfTurned (Turned n place content) P = P
IfTurned Asked P = Unit {0}
IfTurned (Arrived link stamped drew) P = Unit {0}
IfTurned (Stray link stamped) P = Unit {0}
IfTurned (Took n place) P = Unit {0}
IfTurned (Passed n) P = Unit {0}
