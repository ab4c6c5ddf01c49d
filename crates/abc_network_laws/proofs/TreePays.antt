-- The hops of requests and replies in a tree of at most 64 nodes: at most seven up to the root, and
-- seven down.
use Rattle.std.proofs.Common.{◌≡◌, ℕ, zero, suc, ◌+◌, ◌-◌, ◌*◌, ◌/◌, ◌%◌, ◌<◌, ◌≤◌, List}
use Rattle.std.proofs.Common.{refl, sym, ap, ◌∙◌, arith, inl, inr}
use Rattle.std.specs.Prelude.{Option, Some, None, ◌⊎◌, ◌==◌, true, false}
use Rattle.std.proofs.lemmas.Bool.{eq-eqb, ne_eqb, cases_eq}
use Rattle.abc_value.specs.declared.grant.Grant.{Grant}
use Rattle.abc_value.specs.declared.grant.Grant.TheVariants.{Number, Closed}
use Rattle.abc_packet.specs.declared.packets.Packet.{Packet}
use Rattle.abc_packet.specs.declared.packets.Packet.TheVariants.{Request, Reply, Message}
use Rattle.abc_shape.specs.declared.shape.Shape.TheVariants.{Tree}
use Rattle.abc_shape.specs.Plans.{IsLink, layout_of, step_up}
use Rattle.abc_shape.specs.Routes.{IsRoute, direct, down, up, IsUnder, steps_up}
use Rattle.abc_network.specs.Links.{to_home, to_parent}
use Rattle.abc_network.specs.Trees.{TreeAsks}
use Rattle.abc_network_laws.specs.Charges.{numbers_drawn, of_packets}
use Rattle.abc_network_laws.specs.ClusterFlows.{grant_worth}
use Rattle.abc_network_laws.specs.TreeFlows.{TreeFits, tree}
use Rattle.abc_network_laws.specs.TreeDepths.{depth_by, depth, up_hops, down_hops}
use Rattle.abc_network_laws.specs.TreeDepths.{tree_request_hops, tree_reply_hops}
use Rattle.abc_network_laws.specs.StoreCharges.{store_weight, Hops}
use Rattle.abc_network_laws.proofs.TreeLinks.{TreeEnd, tree-to-agent, tree-to-node, route-direct}
use Rattle.abc_network_laws.proofs.TreeLinks.{route-child}
use Rattle.abc_network_laws.proofs.TreePaths.{up-at, down-at, rise-at, fall-at}
use Rattle.abc_network_laws.proofs.TreeRows.{reply-under, root-never}

-- At the root there is no step more.
by-root : (f k : ℕ) → k ≡ 0 → depth_by f k ≡ 0
by-root zero k e = refl
by-root (suc f) k e = let z : (k == 0) ≡ true = eq-eqb k 0 e in rw z refl

-- Elsewhere the way up is one longer than from the parent.
by-more : (f k : ℕ) → (k ≡ 0 → ⊥) → depth_by (suc f) k ≡ 1 + depth_by f ((k - 1) / 2)
by-more f k e = let z : (k == 0) ≡ false = ne_eqb k 0 e in rw z refl

-- The way up is the same for every fuel that is enough.
by-same : (f g k : ℕ) → k ≤ f → k ≤ g → depth_by f k ≡ depth_by g k
by-same zero g k a b = sym (by-root g k (omega arith))
by-same (suc f) zero k a b = by-root (suc f) k (omega arith)
by-same (suc f) (suc g) k a b = elim (cases_eq k 0) [
  | inl e ↦ by-root (suc f) k e ∙ sym (by-root (suc g) k e)
  | inr e ↦ by-more f k e ∙ (ap (λ v. 1 + v)
      (by-same f g ((k - 1) / 2) (omega arith) (omega arith)) ∙ sym (by-more g k e))
]

-- A node is one deeper than its parent.
depth-up : (k : ℕ) → (k ≡ 0 → ⊥) → depth k ≡ 1 + depth (step_up k)
depth-up zero e = absurd (e refl)
depth-up (suc j) e = by-more j (suc j) e
    ∙ ap (λ v. 1 + v) (by-same j ((suc j - 1) / 2) ((suc j - 1) / 2) (omega arith) (omega arith))

-- What is over a node is not deeper.
depth-under : (s c h : ℕ) → steps_up s h ≡ c → depth c ≤ depth h
depth-under zero c h e = let a = ap depth e in omega arith
depth-under (suc s) c h e =
    let a = depth-under s c (step_up h) e in
    elim (cases_eq h 0) [
      | inl z ↦ (let b = ap (λ v. depth (step_up v)) z in let d = ap depth z in omega arith)
      | inr z ↦ (let b = depth-up h z in omega arith)
    ]

-- How many nodes are at most so deep.
abbrev width : ℕ → ℕ
width zero = 1
width (suc d) = 2 * width d + 1

-- A node with a low number is not deep.
depth-within : (d h : ℕ) → h < width d → depth h ≤ d
depth-within zero h low = let e = by-root h h (omega arith) in omega arith
depth-within (suc d) h low = elim (cases_eq h 0) [
  | inl e ↦ (let z = by-root h h e in omega arith)
  | inr e ↦ (let a = depth-up h e in let b = depth-within d (step_up h) (omega arith) in
      omega arith)
]

-- Below 64 nodes none is deeper than six.
depth-most : (h : ℕ) → h < 64 → depth h ≤ 6
depth-most h low = depth-within 6 h (let e : 64 ≤ width 6 = omega arith in omega arith)

module _ (agents nodes : ℕ) where
  -- The hops that a request has left at the node where it comes,
  request-left : (k l a : ℕ) → a < agents → TreeEnd agents nodes k l →
      ((l ≡ to_home a) ⊎ ((c : ℕ) × (0 < c) × (c < nodes) × IsUnder c (a % nodes)
      × (l ≡ to_parent agents c))) → tree_request_hops agents nodes l a
      ≡ depth k + depth (a % nodes) + 2
  request-left k l a low (inl h) (inl own) =
      let same : h.0 ≡ a = (let x = h.3 in omega arith) in
      let at : a % nodes ≡ k = ap (λ v. v % nodes) (sym same) ∙ h.2 in
      let d = ap depth at in
      let e = ap (λ v. tree_request_hops agents nodes v a) own
      ∙ ap (up_hops nodes a) (up-at agents a low) in omega arith
  request-left k l a low (inl h) (inr on) =
      absurd (let x = h.3 in let y = on.4 in let z = h.1 in omega arith)
  request-left k l a low (inr (inl h)) (inl own) = absurd (let x = h.4 in omega arith)
  request-left k l a low (inr (inl h)) (inr on) =
      let same : on.0 ≡ h.0 = (let x = h.4 in let y = on.4 in let u = h.1 in let v = on.1 in
      omega arith) in
      let over : step_up on.0 ≡ k = ap step_up same ∙ h.3 in
      let some = on.1 in
      let d = depth-up on.0 (λ z. absurd (omega arith)) in let b = ap depth over in
      let e = ap (λ v. tree_request_hops agents nodes v a) on.4
      ∙ ap (up_hops nodes a) (rise-at agents on.0 on.1) in omega arith
  request-left k l a low (inr (inr h)) (inl own) = absurd (let x = h.2 in omega arith)
  request-left k l a low (inr (inr h)) (inr on) =
      absurd (let x = h.2 in let y = on.4 in omega arith)

  -- and that a reply has left on its route.
  route-left : (k a route : ℕ) → a < agents → IsRoute (layout_of Tree agents nodes) k a route →
      (IsLink (layout_of Tree agents nodes) route (agents + k) (agents + step_up k) → ⊥) →
      tree_reply_hops agents nodes route a ≤ depth (a % nodes) - depth k + 1
  route-left k a route low (direct h) never =
      let e = ap (λ v. tree_reply_hops agents nodes v a)
      (route-direct agents nodes k a route low h)
      ∙ ap (down_hops nodes a) (down-at agents a low) in omega arith
  route-left k a route low (down c shape child under h) never =
      let r = route-child agents nodes k c route child h in
      let some = child.0 in
      let d = depth-up c (λ z. absurd (omega arith)) in let b = ap depth child.1 in
      let u = depth-under under.0 c (a % nodes) under.1 in
      let e = ap (λ v. tree_reply_hops agents nodes v a) r.1
      ∙ ap (down_hops nodes a) (fall-at agents c child.0) in omega arith
  route-left k a route low (up shape not h) never = absurd (never h)

module _ {L : Type 0} (agents nodes worth : ℕ) where
  -- What a packet is worth.
  abbrev weight : ℕ → Packet L → ℕ
  weight l p = store_weight (tree agents nodes) (tree_request_hops agents nodes)
      (tree_reply_hops agents nodes) worth l p

  -- The rows of requests and replies give up one.
  asks-pay : (k l : ℕ) (p : Packet L) (drew : Option Grant) (sends : List (ℕ × Packet L)) →
      TreeAsks (layout_of Tree agents nodes) k l p drew sends → TreeEnd agents nodes k l →
      TreeFits agents nodes l p → of_packets weight sends + 1 ≤ weight l p
      + numbers_drawn drew * worth
  asks-pay k l (Request a) (Some (Number n)) sends h ends fits =
      let e : of_packets weight sends ≡ tree_reply_hops agents nodes h.2.0 a + worth + 0 =
      ap (of_packets weight) h.2.3 in
      let r = route-left agents nodes k a h.2.0 h.0 h.2.1 (root-never agents nodes k h.2.0 h.1) in
      let t = request-left agents nodes k l a h.0 ends fits.1 in let d = ap depth h.1 in omega arith
  asks-pay k l (Request a) (Some Closed) sends h ends fits =
      let e : of_packets weight sends ≡ tree_reply_hops agents nodes h.2.0 a + 0 + 0 =
      ap (of_packets weight) h.2.3 in
      let r = route-left agents nodes k a h.2.0 h.0 h.2.1 (root-never agents nodes k h.2.0 h.1) in
      let t = request-left agents nodes k l a h.0 ends fits.1 in let d = ap depth h.1 in omega arith
  asks-pay k l (Request a) None sends h ends fits =
      let e : of_packets weight sends ≡ tree_request_hops agents nodes (to_parent agents k) a + 0 =
      ap (of_packets weight) h.2.3 in
      let some : 0 < k = omega arith in
      let u = ap (up_hops nodes a) (rise-at agents k some) in
      let t = request-left agents nodes k l a h.0 ends fits.1 in omega arith
  asks-pay k l (Reply a g) None sends h ends fits =
      let e : of_packets weight sends ≡ tree_reply_hops agents nodes h.3.0 a + grant_worth worth g
      + 0 = ap (of_packets weight) h.3.3 in
      let u = reply-under agents nodes k l a h.0 ends fits.1 in
      let t = ap (λ v. tree_reply_hops agents nodes v a) u.2
      ∙ ap (down_hops nodes a) (fall-at agents k u.0) in
      let r = route-left agents nodes k a h.3.0 h.0 h.3.1 h.3.2 in omega arith
  asks-pay k l (Reply a g) (Some d) sends h ends fits = absurd h
  asks-pay k l (Message n sender content) drew sends h ends fits = absurd h

  -- What a tree owes for the hops of requests and replies.
  pub tree-hops : 0 < nodes → nodes ≤ 64 →
      Hops {L = L} (tree agents nodes) (layout_of Tree agents nodes) (λ i packets. to_home i)
      (tree_request_hops agents nodes) (tree_reply_hops agents nodes) worth
  tree-hops some most = record {
    node = λ k l p drew sends h low ends fits. asks-pay k l p drew sends h
        (tree-to-node agents nodes k l ends) fits;
    first = λ i packets low. (let e = ap (up_hops nodes i) (up-at agents i low) in
        let inside : i % nodes < nodes = omega arith in
        let d = depth-most (i % nodes) (omega arith) in omega arith);
    last = λ i l grant ends fits. (let e =
        ap (λ v. tree_reply_hops agents nodes v i) (tree-to-agent agents nodes i l ends)
        ∙ ap (down_hops nodes i) (down-at agents i ends.0) in omega arith);
  }
