-- The hops of requests and replies in a ring: one to the home, and one back.
use Rattle.std.proofs.Common.{◌≡◌, ℕ, ◌+◌, ◌*◌, ◌≤◌, List, ap, arith}
use Rattle.std.specs.Prelude.{Option, Some, None}
use Rattle.abc_value.specs.declared.grant.Grant.{Grant}
use Rattle.abc_value.specs.declared.grant.Grant.TheVariants.{Number, Closed}
use Rattle.abc_packet.specs.declared.packets.Packet.{Packet}
use Rattle.abc_packet.specs.declared.packets.Packet.TheVariants.{Request, Reply, Message}
use Rattle.abc_shape.specs.declared.shape.Shape.TheVariants.{Ring}
use Rattle.abc_shape.specs.Plans.{layout_of}
use Rattle.abc_network.specs.Links.{to_home}
use Rattle.abc_network.specs.Rings.{RingAsks}
use Rattle.abc_network_laws.specs.Charges.{numbers_drawn, of_packets}
use Rattle.abc_network_laws.specs.RingFlows.{ring}
use Rattle.abc_network_laws.specs.StoreCharges.{store_weight, Hops}

module _ {L : Type 0} (agents nodes worth : ℕ) where
  -- What a packet is worth.
  abbrev weight : ℕ → Packet L → ℕ
  weight l p = store_weight (ring agents nodes) (λ l a. 2) (λ l a. 1) worth l p

  -- The rows of requests and replies give up one.
  asks-pay : (k l : ℕ) (p : Packet L) (drew : Option Grant) (sends : List (ℕ × Packet L)) →
      RingAsks (layout_of Ring agents nodes) k l p drew sends →
      of_packets weight sends + 1 ≤ weight l p + numbers_drawn drew * worth
  asks-pay k l (Request a) (Some (Number n)) sends h =
      let e : of_packets weight sends ≡ 1 + worth + 0 = ap (of_packets weight) h.3 in omega arith
  asks-pay k l (Request a) (Some Closed) sends h = let e : of_packets weight sends ≡ 1 =
      ap (of_packets weight) h.3 in omega arith
  asks-pay k l (Request a) None sends h = absurd h
  asks-pay k l (Reply a g) drew sends h = absurd h
  asks-pay k l (Message n sender content) drew sends h = absurd h

  -- What a ring owes for the hops of requests and replies.
  pub ring-hops : Hops {L = L} (ring agents nodes) (layout_of Ring agents nodes)
      (λ i packets. to_home i) (λ l a. 2) (λ l a. 1) worth
  ring-hops = record {
    node = λ k l p drew sends h low ends fits. asks-pay k l p drew sends h;
    first = λ i packets low. omega arith;
    last = λ i l grant ends fits. omega arith;
  }
