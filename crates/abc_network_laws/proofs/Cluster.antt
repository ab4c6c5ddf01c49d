-- What the cluster node owes.
use Rattle.std.proofs.Common.{◌≡◌, ℕ, zero, suc, ◌+◌, ◌≤◌, List, ◌∷◌, refl, sym, ap, subst, arith}
use Rattle.std.specs.Prelude.{Option, Some, None, ◌==◌, Bool, true, false, if◌then◌else◌}
use Rattle.abc_packet.specs.declared.log.Deed.TheVariants.{Arrived, Asked, Passed, Stray, Took}
use Rattle.abc_packet.specs.declared.log.Deed.TheVariants.{Turned}
use Rattle.abc_network.specs.Nodes.{ClusterDoes, ClusterTakes, cluster_machine, copies_from}
use Rattle.abc_packet.specs.declared.packets.Content.{Content}
use Rattle.abc_packet.specs.declared.log.Deed.{Deed}
use Rattle.abc_network_laws.specs.Kept.{Each, Relays, sends_number, total}
use Rattle.abc_value.specs.declared.grant.Grant.{Grant}
use Rattle.abc_network_laws.specs.Counts.{IfMessage, draws_number, grants_number, replies_number}
use Rattle.abc_network_laws.specs.Counts.{taken_packets}
use Rattle.abc_packet.specs.declared.packets.Packet.TheVariants.{Message, Reply, Request}
use Rattle.abc_packet.specs.declared.packets.Packet.{Packet}
use Rattle.abc_network.specs.Networks.{drawn_in}
use Rattle.abc_network.specs.Links.{to_agent}

module _ {L : Type 0} (agents nodes k : ℕ) where
  -- What holds of a list and of one more packet holds of the list with or without it.
  if-copies : (P : ℕ × Packet L → Type 0) (b : Bool) (x : ℕ × Packet L)
      (xs : List (ℕ × Packet L)) → P x → Each P xs → Each P (if b then xs else x ∷ xs)
  if-copies P true x xs p h = h
  if-copies P false x xs p h = (p, h)

  -- All copies are of the one packet.
  copies-each : (P : Packet L → Type 0) (sender i count : ℕ) (packet : Packet L) → P packet →
      Each (λ x. P x.1) (copies_from nodes k sender i count packet)
  copies-each P sender i zero packet p = tt
  copies-each P sender i (suc count) packet p =
      if-copies (λ x. P x.1) (i == sender) (to_agent nodes k i, packet)
      (copies_from nodes k sender (i + 1) count packet) p
      (copies-each P sender (i + 1) count packet p)

  -- A copy that does not count, or none.
  if-total : (f : ℕ × Packet L → ℕ) (b : Bool) (x : ℕ × Packet L) (xs : List (ℕ × Packet L)) →
      f x ≡ 0 → total f xs ≡ 0 → total f (if b then xs else x ∷ xs) ≡ 0
  if-total f true x xs p h = h
  if-total f false x xs p h = omega arith

  -- Copies of a message are no replies.
  copies-total : (n sender i count : ℕ) (packet : Packet L) → replies_number n packet ≡ 0 →
      total (sends_number n) (copies_from nodes k sender i count packet) ≡ 0
  copies-total n sender i zero packet p = refl
  copies-total n sender i (suc count) packet p =
      if-total (sends_number n) (i == sender) (to_agent nodes k i, packet)
      (copies_from nodes k sender (i + 1) count packet) p
      (copies-total n sender (i + 1) count packet p)

  -- What is sent is what was taken.
  takes-each : (P : ℕ → ℕ → Content L →
      Type 0) (l : ℕ) (p : Packet L) (drew : Option Grant) (sends : List (ℕ × Packet L)) →
      ClusterTakes agents nodes k l p drew sends → IfMessage P p → Each (λ x. IfMessage P x.1) sends
  takes-each P l (Request agent) (Some grant) sends h q =
      subst (Each (λ x. IfMessage P x.1)) (sym h.2) (tt, tt)
  takes-each P l (Message n sender content) None sends h q =
      subst (Each (λ x. IfMessage P x.1)) (sym h.2)
      (copies-each (IfMessage P) sender 0 agents (Message n sender content) q)
  takes-each P l (Request agent) None sends h q = absurd h
  takes-each P l (Reply agent grant) drew sends h q = absurd h
  takes-each P l (Message n sender content) (Some grant) sends h q = absurd h

  -- A row sends the replies that it took, and the one that it drew.
  takes-replies : (n l : ℕ) (p : Packet L) (drew : Option Grant) (sends : List (ℕ × Packet L)) →
      ClusterTakes agents nodes k l p drew sends →
      total (sends_number n) sends ≤ replies_number n p + draws_number n drew
  takes-replies n l (Request agent) (Some grant) sends h =
      let e : total (sends_number n) sends ≡ grants_number n grant + 0 =
      ap (total (sends_number n)) h.2 in omega arith
  takes-replies n l (Message m sender content) None sends h = let e =
      ap (total (sends_number n)) h.2 in
      let z = copies-total n sender 0 agents (Message m sender content) refl in omega arith
  takes-replies n l (Request agent) None sends h = absurd h
  takes-replies n l (Reply agent grant) drew sends h = absurd h
  takes-replies n l (Message m sender content) (Some grant) sends h = absurd h

  -- What a node sends is what it took.
  does-each : (P : ℕ → ℕ → Content L →
      Type 0) (s : Unit {0}) (d : Deed L) (sends : List (ℕ × Packet L)) (s' : Unit {0}) →
      ClusterDoes agents nodes k s d sends s' → Each (IfMessage P) (taken_packets d) →
      Each (λ x. IfMessage P x.1) sends
  does-each P s (Arrived l x drew) sends s' h q = takes-each P l x.packet drew sends h q.0
  does-each P s (Stray l x) sends s' h q = subst (Each (λ x. IfMessage P x.1)) (sym h.1) tt
  does-each P s Asked sends s' h q = absurd h
  does-each P s (Took n place) sends s' h q = absurd h
  does-each P s (Turned n place content) sends s' h q = absurd h
  does-each P s (Passed n) sends s' h q = absurd h

  -- The same for each deed.
  does-replies : (n : ℕ) (s : Unit {0}) (d : Deed L) (sends : List (ℕ × Packet L))
      (s' : Unit {0}) → ClusterDoes agents nodes k s d sends s' →
      total (sends_number n) sends ≤ total (replies_number n) (taken_packets d)
      + draws_number n (drawn_in d)
  does-replies n s (Arrived l x drew) sends s' h = let g =
      takes-replies n l x.packet drew sends h in omega arith
  does-replies n s (Stray l x) sends s' h = let e : total (sends_number n) sends ≡ 0 =
      ap (total (sends_number n)) h.1 in omega arith
  does-replies n s Asked sends s' h = absurd h
  does-replies n s (Took m place) sends s' h = absurd h
  does-replies n s (Turned m place content) sends s' h = absurd h
  does-replies n s (Passed m) sends s' h = absurd h

-- A node of a cluster makes up neither messages nor numbers.
pub cluster-relays : {L : Type 0} (agents nodes : ℕ) → Relays {L = L} (cluster_machine agents nodes)
cluster-relays agents nodes = record {
  messages = λ P k s d sends s' h q held.
      (does-each agents nodes k P s d sends s' h q, λ n sender content has. absurd has);
  replies = λ n k s d sends s' h. does-replies agents nodes k n s d sends s' h;
}
