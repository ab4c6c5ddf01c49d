-- The nodes of each shape answer that no number is left only where a draw said so.
use Rattle.std.proofs.Common.{◌≡◌, ℕ, zero, suc, ◌+◌, ◌≤◌, List, [], ◌∷◌, refl, ap, arith}
use Rattle.std.specs.Prelude.{Option, Some, None, ◌==◌, Bool, true, false, if◌then◌else◌}
use Rattle.abc_value.specs.declared.grant.Grant.{Grant}
use Rattle.abc_packet.specs.declared.packets.Content.{Content}
use Rattle.abc_packet.specs.declared.packets.Packet.{Packet}
use Rattle.abc_packet.specs.declared.packets.Packet.TheVariants.{Request, Reply, Message}
use Rattle.abc_packet.specs.declared.log.Deed.{Deed}
use Rattle.abc_packet.specs.declared.log.Deed.TheVariants.{Arrived, Asked, Passed, Stray, Took, Turned}
use Rattle.abc_shape.specs.declared.layout.Layout.{Layout}
use Rattle.abc_network.specs.Links.{to_agent}
use Rattle.abc_network.specs.Networks.{drawn_in}
use Rattle.abc_network.specs.Nodes.{ClusterDoes, ClusterTakes, cluster_machine, copies_from}
use Rattle.abc_network.specs.Rings.{ring_kind}
use Rattle.abc_network.specs.Stores.{Store, StoreDoes, StoreKind, StoreTakes, store_machine, to_each}
use Rattle.abc_network.specs.Trees.{tree_kind}
use Rattle.abc_network_laws.specs.Counts.{taken_packets}
use Rattle.abc_network_laws.specs.Kept.{total}
use Rattle.abc_schedule.specs.Legal.{closings}
use Rattle.abc_record_ends.proofs.Closing.{ClosesByDraws, brings_closed, sends_closed}

module _ {L : Type 0} (agents nodes k : ℕ) where
  -- A copy that is no such reply, or none.
  if-none : (b : Bool) (x : ℕ × Packet L) (xs : List (ℕ × Packet L)) → sends_closed x ≡ 0 →
      total sends_closed xs ≡ 0 → total sends_closed (if b then xs else x ∷ xs) ≡ 0
  if-none true x xs p h = h
  if-none false x xs p h = omega arith

  -- Copies of a message are no such replies.
  copies-none : (sender i count : ℕ) (packet : Packet L) → brings_closed packet ≡ 0 →
      total sends_closed (copies_from nodes k sender i count packet) ≡ 0
  copies-none sender i zero packet p = refl
  copies-none sender i (suc count) packet p =
      if-none (i == sender) (to_agent nodes k i, packet) (copies_from nodes k sender (i + 1) count packet) p
      (copies-none sender (i + 1) count packet p)

  -- What a cluster's node takes,
  cluster-takes : (l : ℕ) (p : Packet L) (drew : Option Grant) (sends : List (ℕ × Packet L)) →
      ClusterTakes agents nodes k l p drew sends → total sends_closed sends ≤ brings_closed p + closings drew
  cluster-takes l (Request agent) (Some grant) sends h =
      let e : total sends_closed sends ≡ closings (Some grant) + 0 = ap (total sends_closed) h.2 in omega arith
  cluster-takes l (Message n sender content) None sends h =
      let e = ap (total sends_closed) h.2 in
      let z = copies-none sender 0 agents (Message n sender content) refl in omega arith
  cluster-takes l (Request agent) None sends h = absurd h
  cluster-takes l (Reply agent grant) drew sends h = absurd h
  cluster-takes l (Message n sender content) (Some grant) sends h = absurd h

  -- and does.
  cluster-does : (s : Unit {0}) (d : Deed L) (sends : List (ℕ × Packet L)) (s' : Unit {0}) →
      ClusterDoes agents nodes k s d sends s' →
      total sends_closed sends ≤ total brings_closed (taken_packets d) + closings (drawn_in d)
  cluster-does s (Arrived l x drew) sends s' h = let e = cluster-takes l x.packet drew sends h in omega arith
  cluster-does s (Stray l x) sends s' h =
      let e : total sends_closed sends ≡ 0 = ap (total sends_closed) h.1 in omega arith
  cluster-does s Asked sends s' h = absurd h
  cluster-does s (Took n place) sends s' h = absurd h
  cluster-does s (Turned n place content) sends s' h = absurd h
  cluster-does s (Passed n) sends s' h = absurd h

-- Of a cluster,
pub cluster-closes : {L : Type 0} (agents nodes : ℕ) → ClosesByDraws {L = L} (cluster_machine agents nodes)
cluster-closes agents nodes = λ k s d sends s' h. cluster-does agents nodes k s d sends s' h

-- What a storing node owes for what it does with a request or a reply.
abbrev pub AsksByDraws : {L : Type 0} → StoreKind L → Type 0
AsksByDraws {L} g =
    (k l : ℕ) (p : Packet L) (drew : Option Grant) (sends : List (ℕ × Packet L)) → g.asking k l p drew sends →
    total sends_closed sends ≤ brings_closed p + closings drew

module _ {L : Type 0} (g : StoreKind L) (asks : AsksByDraws g) where
  -- A message that goes on is no such reply.
  each-none : (n sender : ℕ) (content : Content L) (ls : List ℕ) →
      total sends_closed (to_each ls (Message n sender content)) ≡ 0
  each-none n sender content [] = refl
  each-none n sender content (l ∷ ls) = let e = each-none n sender content ls in omega arith

  -- What a storing node takes,
  store-takes : (k l : ℕ) (s s' : Store L) (p : Packet L) (drew : Option Grant) (sends : List (ℕ × Packet L)) →
      StoreTakes g k s l p drew sends s' → total sends_closed sends ≤ brings_closed p + closings drew
  store-takes k l s s' (Message n sender content) drew sends h =
      let e : total sends_closed sends ≡ 0 = ap (total sends_closed) h.sends in omega arith
  store-takes k l s s' (Request agent) drew sends h = asks k l (Request agent) drew sends h.0
  store-takes k l s s' (Reply agent grant) drew sends h = asks k l (Reply agent grant) drew sends h.0

  -- and does.
  store-does : (k : ℕ) (s : Store L) (d : Deed L) (sends : List (ℕ × Packet L)) (s' : Store L) →
      StoreDoes g k s d sends s' →
      total sends_closed sends ≤ total brings_closed (taken_packets d) + closings (drawn_in d)
  store-does k s (Arrived l x drew) sends s' h = let e = store-takes k l s s' x.packet drew sends h in omega arith
  store-does k s (Stray l x) sends s' h =
      let e : total sends_closed sends ≡ 0 = ap (total sends_closed) h.1 in omega arith
  store-does k s (Passed n) sends s' h =
      let e = ap (total sends_closed) h.sends in
      let z = each-none n h.item.sender h.item.content (g.outs k h.item.sender h.item.came) in omega arith
  store-does k s Asked sends s' h = absurd h
  store-does k s (Took n place) sends s' h = absurd h
  store-does k s (Turned n place content) sends s' h = absurd h

  -- A storing node's table, where its rows for requests and replies are so.
  store-closes : ClosesByDraws (store_machine g)
  store-closes = λ k s d sends s' h. store-does k s d sends s' h

-- of a ring
pub ring-closes : {L : Type 0} (p : Layout) → ClosesByDraws (store_machine {L = L} (ring_kind p))
ring-closes {L} p = store-closes (ring_kind p) asks where
  asks : AsksByDraws {L = L} (ring_kind p)
  asks k l (Request agent) (Some grant) sends h =
      let e : total sends_closed sends ≡ closings (Some grant) + 0 = ap (total sends_closed) h.3 in omega arith
  asks k l (Request agent) None sends h = absurd h
  asks k l (Reply agent grant) drew sends h = absurd h
  asks k l (Message n sender content) drew sends h = absurd h

-- and of a tree, where a reply that came goes on.
pub tree-closes : {L : Type 0} (p : Layout) → ClosesByDraws (store_machine {L = L} (tree_kind p))
tree-closes {L} p = store-closes (tree_kind p) asks where
  asks : AsksByDraws {L = L} (tree_kind p)
  asks k l (Request agent) (Some grant) sends h =
      let e : total sends_closed sends ≡ closings (Some grant) + 0 = ap (total sends_closed) h.2.3 in omega arith
  asks k l (Request agent) None sends h =
      let e : total sends_closed sends ≡ 0 = ap (total sends_closed) h.2.3 in omega arith
  asks k l (Reply agent grant) None sends h =
      let e : total sends_closed sends ≡ closings (Some grant) + 0 = ap (total sends_closed) h.3.3 in omega arith
  asks k l (Reply agent grant) (Some drawn) sends h = absurd h
  asks k l (Message n sender content) drew sends h = absurd h
