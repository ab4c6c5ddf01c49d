-- In each shape agents and nodes send on links that start at them.
use Rattle.std.proofs.Common.{◌≡◌, ℕ, zero, suc, ◌+◌, ◌*◌, ◌%◌, ◌<◌, ◌≤◌, ◌==◌, List, [], ◌∷◌, ◌++◌}
use Rattle.std.proofs.Common.{refl, sym, ap, subst, arith, inl, inr, Bool, true, false, if◌then◌else◌, eq-eqb}
use Rattle.std.specs.Prelude.{Option, Some, None, nat_lt}
use Rattle.std.proofs.lemmas.Bool.{cases_lt, eqb-true, ltb-true, cases_eq}
use Rattle.std.proofs.lemmas.Nat.{mod_below}
use Rattle.abc_value.specs.declared.grant.Grant.{Grant}
use Rattle.abc_packet.specs.declared.packets.Packet.{Packet}
use Rattle.abc_packet.specs.declared.packets.Packet.TheVariants.{Request, Reply, Message}
use Rattle.abc_packet.specs.declared.log.Deed.{Deed}
use Rattle.abc_packet.specs.declared.log.Deed.TheVariants.{Asked, Arrived, Took, Turned, Passed}
use Rattle.abc_packet.specs.declared.log.Deed.TheVariants.{Stray}
use Rattle.abc_shape.specs.declared.layout.Layout.{Layout}
use Rattle.abc_shape.specs.declared.shape.Shape.TheVariants.{Cluster, Ring, Tree}
use Rattle.abc_shape.specs.Plans.{layout_of, actor_of, home, step_up}
use Rattle.abc_shape.specs.Plans.{cluster_up, cluster_down, home_up, home_down, along, tree_up, tree_down}
use Rattle.abc_shape.specs.Routes.{IsRoute, direct, down, up}
use Rattle.abc_network.specs.Links.{to_agent, to_home, from_home, to_successor, to_parent, from_parent}
use Rattle.abc_network.specs.Nodes.{ClusterDoes, ClusterTakes, copies_from}
use Rattle.abc_network.specs.Stores.{Store, StoreKind, StoreDoes, StoreTakes, to_each}
use Rattle.abc_network.specs.Rings.{ring_kind, ring_outs, homed_from, RingAsks}
use Rattle.abc_network.specs.Trees.{tree_kind, tree_outs, agents_of, parent_of, child_of, TreeAsks}
use Rattle.abc_network.specs.Shapes.{cluster_rules, ring_rules, tree_rules}
use Rattle.abc_network_laws.specs.Kept.{Each}
use Rattle.abc_network_laws.proofs.Lists.{each-append}
use Rattle.abc_schedule.specs.Shapes.{StartsAt, OwnLinks}

-- Of two lists the one that a test says.
each-if : {X : Type 0} (P : X → Type 0) (b : Bool) (xs ys : List X) → (b ≡ true → Each P xs) →
    (b ≡ false → Each P ys) → Each P (if b then xs else ys)
each-if P true xs ys f g = f refl
each-if P false xs ys f g = g refl

-- A packet sent on each of some links.
each-sent_on : {L : Type 0} (Q : ℕ → Type 0) (ls : List ℕ) (packet : Packet L) → Each Q ls →
    Each (λ (x : ℕ × Packet L). Q x.0) (to_each ls packet)
each-sent_on Q [] packet h = tt
each-sent_on Q (l ∷ ls) packet h = (h.0, each-sent_on Q ls packet h.1)

-- Sent on links that start at an actor.
abbrev Sends : {L : Type 0} → Layout → ℕ → List (ℕ × Packet L) → Type 0
Sends {L} p a out = Each (λ (x : ℕ × Packet L). StartsAt p a x.0) out

module _ (agents nodes k : ℕ) (low : k < nodes) where
  -- A link to an agent of a cluster.
  cluster-link : (i : ℕ) → i < agents →
      StartsAt (layout_of Cluster agents nodes) (agents + k) (to_agent nodes k i)
  cluster-link i at = (i, cluster_down i k refl at low refl refl refl)

  -- The copies of a message.
  copies-start : {L : Type 0} (sender i count : ℕ) (packet : Packet L) → i + count ≤ agents →
      Sends (layout_of Cluster agents nodes) (agents + k) (copies_from nodes k sender i count packet)
  copies-start sender i zero packet most = tt
  copies-start {L} sender i (suc count) packet most =
      let m : i + suc count ≤ agents = most in
      let rest = copies-start {L = L} sender (i + 1) count packet (omega arith) in
      each-if (λ (x : ℕ × Packet L). StartsAt (layout_of Cluster agents nodes) (agents + k) x.0) (i == sender)
      (copies_from nodes k sender (i + 1) count packet)
      ((to_agent nodes k i, packet) ∷ copies_from nodes k sender (i + 1) count packet)
      (λ e. rest) (λ e. (cluster-link i (omega arith), rest))

  -- What it sends for a packet.
  cluster-takes : {L : Type 0} (l : ℕ) (packet : Packet L) (drew : Option Grant) (out : List (ℕ × Packet L)) →
      ClusterTakes agents nodes k l packet drew out → Sends (layout_of Cluster agents nodes) (agents + k) out
  cluster-takes l (Request agent) (Some grant) out h =
      subst (Sends (layout_of Cluster agents nodes) (agents + k)) (sym h.2) (cluster-link agent h.0, tt)
  cluster-takes l (Request agent) None out h = absurd h
  cluster-takes l (Reply agent grant) drew out h = absurd h
  cluster-takes l (Message n sender content) None out h =
      subst (Sends (layout_of Cluster agents nodes) (agents + k)) (sym h.2)
      (copies-start sender 0 agents (Message n sender content) (omega arith))
  cluster-takes l (Message n sender content) (Some grant) out h = absurd h

  -- So it does by each deed.
  cluster-node : {L : Type 0} (s : Unit {0}) (d : Deed L) (out : List (ℕ × Packet L)) (s' : Unit {0}) →
      ClusterDoes agents nodes k s d out s' → Sends (layout_of Cluster agents nodes) (agents + k) out
  cluster-node s (Arrived l x drew) out s' h = cluster-takes l x.packet drew out h
  cluster-node s (Stray l x) out s' h = subst (Sends (layout_of Cluster agents nodes) (agents + k)) (sym h.1) tt
  cluster-node s Asked out s' h = absurd h
  cluster-node s (Took n place) out s' h = absurd h
  cluster-node s (Turned n place content) out s' h = absurd h
  cluster-node s (Passed n) out s' h = absurd h

-- In a cluster.
pub cluster-own : {L : Type 0} (agents nodes limit pick : ℕ) → 0 < nodes →
    OwnLinks (cluster_rules {L = L} agents nodes limit pick)
cluster-own agents nodes limit pick some = record {
  agents = λ i packets low.
      let k = (i + packets) % nodes in
      (agents + k, cluster_up i k refl low (mod_below (i + packets) nodes some) refl refl refl);
  nodes = λ k s d out s' low h. cluster-node agents nodes k low s d out s' h;
}

-- What a kind of storing node owes: it sends on its own links.
record OwnKind {L : Type 0} (p : Layout) (g : StoreKind L) (k : ℕ) : Type 0 where
  outs : (sender came : ℕ) → Each (StartsAt p (actor_of p k)) (g.outs k sender came)
  asks : (l : ℕ) (packet : Packet L) (drew : Option Grant) (out : List (ℕ × Packet L)) →
      g.asking k l packet drew out → Sends p (actor_of p k) out

-- Such a node sends on its own links.
store-takes : {L : Type 0} (p : Layout) (g : StoreKind L) (k : ℕ) → OwnKind p g k →
    (s : Store L) (l : ℕ) (packet : Packet L) (drew : Option Grant) (out : List (ℕ × Packet L)) (s' : Store L) →
    StoreTakes g k s l packet drew out s' → Sends p (actor_of p k) out
store-takes p g k own s l (Message n sender content) drew out s' h = subst (Sends p (actor_of p k)) (sym h.sends) tt
store-takes p g k own s l (Request agent) drew out s' h = own.asks l (Request agent) drew out h.0
store-takes p g k own s l (Reply agent grant) drew out s' h = own.asks l (Reply agent grant) drew out h.0

-- By each deed.
store-node : {L : Type 0} (p : Layout) (g : StoreKind L) (k : ℕ) → OwnKind p g k →
    (s : Store L) (d : Deed L) (out : List (ℕ × Packet L)) (s' : Store L) → StoreDoes g k s d out s' →
    Sends p (actor_of p k) out
store-node p g k own s (Arrived l x drew) out s' h = store-takes p g k own s l x.packet drew out s' h
store-node p g k own s (Stray l x) out s' h = subst (Sends p (actor_of p k)) (sym h.1) tt
store-node p g k own s (Passed n) out s' h =
    subst (Sends p (actor_of p k)) (sym h.sends)
    (each-sent_on (StartsAt p (actor_of p k)) (g.outs k h.item.sender h.item.came)
    (Message n h.item.sender h.item.content) (own.outs h.item.sender h.item.came))
store-node p g k own s Asked out s' h = absurd h
store-node p g k own s (Took n place) out s' h = absurd h
store-node p g k own s (Turned n place content) out s' h = absurd h

-- The links to the agents that are homed at a node of a ring.
module _ (agents nodes k : ℕ) (some : 0 < nodes) (low : k < nodes) where
  homed-start : (sender i count : ℕ) → i + count ≤ agents →
      Each (StartsAt (layout_of Ring agents nodes) (agents + k))
      (homed_from (layout_of Ring agents nodes) k sender i count)
  homed-start sender i zero most = tt
  homed-start sender i (suc count) most =
      let m : i + suc count ≤ agents = most in
      let rest = homed-start sender (i + 1) count (omega arith) in
      let ls = homed_from (layout_of Ring agents nodes) k sender (i + 1) count in
      each-if (StartsAt (layout_of Ring agents nodes) (agents + k)) (i == sender) ls
      (if home (layout_of Ring agents nodes) i == k then from_home i ∷ ls else ls) (λ e. rest)
      (λ e. each-if (StartsAt (layout_of Ring agents nodes) (agents + k)) (home (layout_of Ring agents nodes) i == k)
      (from_home i ∷ ls) ls
      (λ at.
      let is : i % nodes ≡ k = eqb-true (i % nodes) k at in
      ((i, home_down i (λ e. cc) (omega arith) (ap (λ v. agents + v) (sym is)) refl refl), rest))
      (λ at. rest))

  -- A ring of one node has no link to a successor, and needs none.
  ring-outs : (sender came : ℕ) →
      Each (StartsAt (layout_of Ring agents nodes) (agents + k)) (ring_outs (layout_of Ring agents nodes) k sender came)
  ring-outs sender came =
      let next = (k + 1) % nodes in
      each-append (StartsAt (layout_of Ring agents nodes) (agents + k))
      (homed_from (layout_of Ring agents nodes) k sender 0 agents)
      (if next == sender % nodes then [] else to_successor agents k ∷ [])
      (homed-start sender 0 agents (omega arith))
      (each-if (StartsAt (layout_of Ring agents nodes) (agents + k)) (next == sender % nodes) []
      (to_successor agents k ∷ []) (λ e. tt)
      (λ e. elim (cases_lt 1 nodes) [
        | inl several ↦ ((agents + next, along k refl several low refl refl refl), tt)
        | inr one ↦
            let a = mod_below (k + 1) nodes some in
            let b = mod_below sender nodes some in
            let same : next ≡ sender % nodes = omega arith in
            let yes : (next == sender % nodes) ≡ true = eq-eqb next (sender % nodes) same in
            absurd (cc)
      ]))

  -- The replies.
  ring-asks : {L : Type 0} (l : ℕ) (packet : Packet L) (drew : Option Grant) (out : List (ℕ × Packet L)) →
      RingAsks (layout_of Ring agents nodes) k l packet drew out → Sends (layout_of Ring agents nodes) (agents + k) out
  ring-asks l (Request agent) (Some grant) out h =
      subst (Sends (layout_of Ring agents nodes) (agents + k)) (sym h.3)
      ((agent, home_down agent (λ e. cc) h.0 (ap (λ v. agents + v) (sym h.1)) refl refl), tt)
  ring-asks l (Request agent) None out h = absurd h
  ring-asks l (Reply agent grant) drew out h = absurd h
  ring-asks l (Message n sender content) drew out h = absurd h

-- In a ring.
pub ring-own : {L : Type 0} (agents nodes limit pick : ℕ) → 0 < nodes →
    OwnLinks (ring_rules {L = L} agents nodes limit pick)
ring-own agents nodes limit pick some = record {
  agents = λ i packets low. (agents + i % nodes, home_up i (λ e. cc) low refl refl refl);
  nodes = λ k s d out s' low h.
      store-node (layout_of Ring agents nodes) (ring_kind (layout_of Ring agents nodes)) k
      (record { outs = ring-outs agents nodes k some low; asks = ring-asks agents nodes k some low }) s d out s' h;
}

module _ (agents nodes k : ℕ) (low : k < nodes) where
  -- The links of a tree's node: to its agents,
  tree-agents : (came i count : ℕ) → i + count ≤ agents →
      Each (StartsAt (layout_of Tree agents nodes) (agents + k))
      (agents_of (layout_of Tree agents nodes) k came i count)
  tree-agents came i zero most = tt
  tree-agents came i (suc count) most =
      let m : i + suc count ≤ agents = most in
      let rest = tree-agents came (i + 1) count (omega arith) in
      let ls = agents_of (layout_of Tree agents nodes) k came (i + 1) count in
      each-if (StartsAt (layout_of Tree agents nodes) (agents + k)) (home (layout_of Tree agents nodes) i == k)
      (if came == to_home i then ls else from_home i ∷ ls) ls
      (λ at.
      let is : i % nodes ≡ k = eqb-true (i % nodes) k at in
      each-if (StartsAt (layout_of Tree agents nodes) (agents + k)) (came == to_home i) ls (from_home i ∷ ls)
      (λ e. rest)
      (λ e. ((i, home_down i (λ e. cc) (omega arith) (ap (λ v. agents + v) (sym is)) refl refl), rest)))
      (λ at. rest)

  -- to its parent,
  tree-parent : (came : ℕ) → Each (StartsAt (layout_of Tree agents nodes) (agents + k))
      (parent_of (layout_of Tree agents nodes) k came)
  tree-parent came =
      each-if (StartsAt (layout_of Tree agents nodes) (agents + k)) (k == 0) []
      (if came == from_parent agents k then [] else to_parent agents k ∷ []) (λ e. tt)
      (λ root. each-if (StartsAt (layout_of Tree agents nodes) (agents + k)) (came == from_parent agents k) []
      (to_parent agents k ∷ []) (λ e. tt)
      (λ e. (
        (
          agents + step_up k,
          tree_up k refl (elim (cases_eq k 0) [
            | inl is ↦ absurd (let yes : (k == 0) ≡ true = eq-eqb k 0 is in cc)
            | inr ne ↦ omega arith
          ]) low refl refl refl,
        ),
        tt,
      )))

  -- and to a child.
  tree-child : (c came : ℕ) → 0 < c → step_up c ≡ k →
      Each (StartsAt (layout_of Tree agents nodes) (agents + k)) (child_of (layout_of Tree agents nodes) c came)
  tree-child c came some is =
      each-if (StartsAt (layout_of Tree agents nodes) (agents + k)) (nat_lt c nodes)
      (if came == to_parent agents c then [] else from_parent agents c ∷ []) []
      (λ there. each-if (StartsAt (layout_of Tree agents nodes) (agents + k)) (came == to_parent agents c) []
      (from_parent agents c ∷ []) (λ e. tt)
      (λ e. ((agents + c, tree_down c refl some (ltb-true c nodes there) (ap (λ v. agents + v) (sym is)) refl refl), tt)))
      (λ e. tt)

  -- All of them.
  tree-outs : (sender came : ℕ) →
      Each (StartsAt (layout_of Tree agents nodes) (agents + k)) (tree_outs (layout_of Tree agents nodes) k sender came)
  tree-outs sender came =
      let P = StartsAt (layout_of Tree agents nodes) (agents + k) in
      let p = layout_of Tree agents nodes in
      each-append P (agents_of p k came 0 agents)
      (parent_of p k came ++ (child_of p (2 * k + 1) came ++ child_of p (2 * k + 2) came))
      (tree-agents came 0 agents (omega arith))
      (each-append P (parent_of p k came) (child_of p (2 * k + 1) came ++ child_of p (2 * k + 2) came)
      (tree-parent came)
      (each-append P (child_of p (2 * k + 1) came) (child_of p (2 * k + 2) came)
      (tree-child (2 * k + 1) came (omega arith) (omega arith))
      (tree-child (2 * k + 2) came (omega arith) (omega arith))))

  -- A route starts at its node.
  route-starts : (i l : ℕ) → IsRoute (layout_of Tree agents nodes) k i l →
      StartsAt (layout_of Tree agents nodes) (agents + k) l
  route-starts i l (direct h) = (i, h)
  route-starts i l (down c shape child under h) = (agents + c, h)
  route-starts i l (up shape not h) = (agents + step_up k, h)

  -- Requests and replies.
  tree-asks : {L : Type 0} (l : ℕ) (packet : Packet L) (drew : Option Grant) (out : List (ℕ × Packet L)) →
      TreeAsks (layout_of Tree agents nodes) k l packet drew out → Sends (layout_of Tree agents nodes) (agents + k) out
  tree-asks l (Request agent) (Some grant) out h =
      subst (Sends (layout_of Tree agents nodes) (agents + k)) (sym h.2.3) (route-starts agent h.2.0 h.2.1, tt)
  tree-asks l (Request agent) None out h =
      let ne = h.1 in
      subst (Sends (layout_of Tree agents nodes) (agents + k)) (sym h.2.3)
      ((agents + step_up k, tree_up k refl (omega arith) low refl refl refl), tt)
  tree-asks l (Reply agent grant) None out h =
      subst (Sends (layout_of Tree agents nodes) (agents + k)) (sym h.3.3) (route-starts agent h.3.0 h.3.1, tt)
  tree-asks l (Reply agent grant) (Some drawn) out h = absurd h
  tree-asks l (Message n sender content) drew out h = absurd h

-- In a tree.
pub tree-own : {L : Type 0} (agents nodes limit pick : ℕ) → OwnLinks (tree_rules {L = L} agents nodes limit pick)
tree-own agents nodes limit pick = record {
  agents = λ i packets low. (agents + i % nodes, home_up i (λ e. cc) low refl refl refl);
  nodes = λ k s d out s' low h.
      store-node (layout_of Tree agents nodes) (tree_kind (layout_of Tree agents nodes)) k
      (record { outs = tree-outs agents nodes k low; asks = tree-asks agents nodes k low }) s d out s' h;
}
