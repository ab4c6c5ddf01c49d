-- What the tree owes: its plan, and its rows of requests and replies.
use Rattle.std.proofs.Common.{◌≡◌, ℕ, zero, suc, ◌+◌, ◌-◌, ◌*◌, ◌%◌, ◌<◌, List, []}
use Rattle.std.proofs.Common.{◌∷◌, ◌++◌, refl, sym, ap, ◌∙◌, subst, arith, inl, inr}
use Rattle.std.specs.Prelude.{Option, Some, None, ◌⊎◌, ◌==◌, nat_lt, true, false}
use Rattle.std.specs.Prelude.{if◌then◌else◌}
use Rattle.std.proofs.lemmas.Bool.{eq-eqb, ne_eqb, cases_eq, cases_lt, lt-ltb, le-ltb}
use Rattle.abc_value.specs.declared.grant.Grant.{Grant}
use Rattle.abc_value.specs.declared.grant.Grant.TheVariants.{Closed}
use Rattle.abc_packet.specs.declared.packets.Content.{Content}
use Rattle.abc_packet.specs.declared.packets.Packet.{Packet}
use Rattle.abc_packet.specs.declared.packets.Packet.TheVariants.{Request, Reply, Message}
use Rattle.abc_shape.specs.declared.shape.Shape.TheVariants.{Cluster, Tree}
use Rattle.abc_shape.specs.Plans.{IsLink, home_up, home_down, tree_up, tree_down, layout_of}
use Rattle.abc_shape.specs.Plans.{step_up, link_count}
use Rattle.abc_shape.specs.Routes.{IsRoute, direct, down, up, IsUnder}
use Rattle.abc_shape.proofs.Steps.{under-parent, under-child, under-le}
use Rattle.abc_network.specs.Links.{to_home, from_home, to_parent, from_parent}
use Rattle.abc_network.specs.Trees.{TreeAsks, ComesBack, agents_of, parent_of}
use Rattle.abc_network.specs.Trees.{child_of, tree_outs}
use Rattle.abc_network.specs.Shapes.{tree_rules}
use Rattle.abc_network_laws.specs.Counts.{IfMessage, replies_number, draws_number, grants_number}
use Rattle.abc_network_laws.specs.Kept.{Each, total, sends_number}
use Rattle.abc_network_laws.specs.Charges.{of_packets}
use Rattle.abc_network_laws.specs.Flows.{Goal, at_agent, message_on, asks_on, Ways}
use Rattle.abc_network_laws.specs.StoreFlows.{KindLaws, store_flow}
use Rattle.abc_network_laws.specs.RingFlows.{inside}
use Rattle.abc_network_laws.specs.TreeFlows.{tree_leads, tree_leads_on, TreeFits, tree}
use Rattle.abc_network_laws.proofs.Lists.{each-append, each-map}
use Rattle.abc_network_laws.proofs.Places.{early-bit}
use Rattle.abc_network_laws.proofs.RingRows.{own-part, inside-once}
use Rattle.abc_network_laws.proofs.TreePaths.{tree-flow, up-at, down-at}
use Rattle.abc_network_laws.proofs.TreeLinks.{TreeEnd, tree-to-agent, tree-to-node, route-direct}
use Rattle.abc_network_laws.proofs.TreeLinks.{route-child, route-parent, end-there}

-- A tree is no cluster.
not-cluster : Tree ≡ Cluster → ⊥
not-cluster e = cc

module _ (agents nodes : ℕ) where
  -- How many links a tree of these sizes has.
  abbrev links : ℕ
  links = link_count (layout_of Tree agents nodes)

  -- A request on its way up stands at a node that is over the agent's home,
  request-under : (k l a : ℕ) → a < agents → TreeEnd agents nodes k l →
      ((l ≡ to_home a) ⊎ ((c : ℕ) × (0 < c) × (c < nodes) × IsUnder c (a % nodes)
      × (l ≡ to_parent agents c))) → IsUnder k (a % nodes)
  request-under k l a low (inl h) (inl own) = let same : h.0 ≡ a = (let x = h.3 in omega arith) in
      (0, ap (λ v. v % nodes) (sym same) ∙ h.2)
  request-under k l a low (inl h) (inr on) =
      absurd (let x = h.3 in let y = on.4 in let z = h.1 in omega arith)
  request-under k l a low (inr (inl h)) (inl own) = absurd (let x = h.4 in omega arith)
  request-under k l a low (inr (inl h)) (inr on) =
      let same : on.0 ≡ h.0 = (let x = h.4 in let y = on.4 in let u = h.1 in let v = on.1 in
      omega arith) in
      subst (λ v. IsUnder v (a % nodes)) (ap step_up same ∙ h.3)
      (under-parent on.0 (a % nodes) on.3)
  request-under k l a low (inr (inr h)) (inl own) = absurd (let x = h.2 in omega arith)
  request-under k l a low (inr (inr h)) (inr on) =
      absurd (let x = h.2 in let y = on.4 in omega arith)

  -- and came from where the route to its agent leads.
  request-route : (k l a : ℕ) → a < agents → TreeEnd agents nodes k l →
      ((l ≡ to_home a) ⊎ ((c : ℕ) × (0 < c) × (c < nodes) × IsUnder c (a % nodes)
      × (l ≡ to_parent agents c))) → (route : ℕ) × IsRoute (layout_of Tree agents nodes) k a route
      × ComesBack (layout_of Tree agents nodes) k route l
  request-route k l a low (inl h) (inl own) =
      let same : h.0 ≡ a = (let x = h.3 in omega arith) in
      let at : a % nodes ≡ k = ap (λ v. v % nodes) (sym same) ∙ h.2 in
      let there : agents + k ≡ agents + a % nodes = omega arith in
      let way : IsLink (layout_of Tree agents nodes) (from_home a) (agents + k) a =
      home_down a not-cluster low there refl refl in
      (from_home a, direct way, (a, way, home_up a not-cluster low refl there own))
  request-route k l a low (inl h) (inr on) =
      absurd (let x = h.3 in let y = on.4 in let z = h.1 in omega arith)
  request-route k l a low (inr (inl h)) (inl own) = absurd (let x = h.4 in omega arith)
  request-route k l a low (inr (inl h)) (inr on) =
      let c : ℕ = on.0 in
      let same : on.0 ≡ h.0 = (let x = h.4 in let y = on.4 in let u = h.1 in let v = on.1 in
      omega arith) in
      let over : step_up c ≡ k = ap step_up same ∙ h.3 in
      let there : agents + k ≡ agents + step_up c = ap (λ v. agents + v) (sym over) in
      let way : IsLink (layout_of Tree agents nodes) (from_parent agents c) (agents + k)
      (agents + c) = tree_down c refl on.1 on.2 there refl refl in (
        from_parent agents c,
        down c refl (on.1, over) on.3 way,
        (agents + c, way, tree_up c refl on.1 on.2 refl there on.4),
      )
  request-route k l a low (inr (inr h)) (inl own) = absurd (let x = h.2 in omega arith)
  request-route k l a low (inr (inr h)) (inr on) =
      absurd (let x = h.2 in let y = on.4 in omega arith)

  -- A reply on its way down stands at a node that is over the agent's home, and came from the
  -- parent.
  pub reply-under : (k l a : ℕ) → a < agents → TreeEnd agents nodes k l →
      ((l ≡ from_home a) ⊎ ((c : ℕ) × (0 < c) × (c < nodes) × IsUnder c (a % nodes)
      × (l ≡ from_parent agents c))) →
      (0 < k) × (k < nodes) × (l ≡ from_parent agents k) × IsUnder k (a % nodes)
  reply-under k l a low (inl h) (inl own) = absurd (let x = h.3 in omega arith)
  reply-under k l a low (inl h) (inr on) =
      absurd (let x = h.3 in let y = on.4 in let z = h.1 in omega arith)
  reply-under k l a low (inr (inl h)) (inl own) = absurd (let x = h.4 in omega arith)
  reply-under k l a low (inr (inl h)) (inr on) = absurd (let x = h.4 in let y = on.4 in omega arith)
  reply-under k l a low (inr (inr h)) (inl own) = absurd (let x = h.2 in omega arith)
  reply-under k l a low (inr (inr h)) (inr on) =
      let same : on.0 ≡ k = (let x = h.2 in let y = on.4 in let u = h.0 in let v = on.1 in
      omega arith) in
      (h.0, h.1, h.2, subst (λ v. IsUnder v (a % nodes)) same on.3)

  -- From there a route leads on down.
  reply-route : (k a : ℕ) → a < agents → 0 < nodes → IsUnder k (a % nodes) →
      (route : ℕ) × IsRoute (layout_of Tree agents nodes) k a route
      × (IsLink (layout_of Tree agents nodes) route (agents + k) (agents + step_up k) → ⊥)
  reply-route k a low some h = elim (under-child h.0 k (a % nodes) h.1) [
    | inl here ↦ (
        let there : agents + k ≡ agents + a % nodes = omega arith in
        let way : IsLink (layout_of Tree agents nodes) (from_home a) (agents + k) a =
        home_down a not-cluster low there refl refl in (
          from_home a,
          direct way,
          λ z. (let r = route-parent agents nodes k (from_home a) z in
              let x = r.2 in absurd (omega arith)),
        ))
    | inr c ↦ (
        let le = under-le c.0 (a % nodes) c.2 in
        let inside : a % nodes < nodes = omega arith in
        let under : c.0 < nodes = omega arith in
        let there : agents + k ≡ agents + step_up c.0 = ap (λ v. agents + v) (sym c.1.1) in
        let way : IsLink (layout_of Tree agents nodes) (from_parent agents c.0) (agents + k)
        (agents + c.0) = tree_down c.0 refl c.1.0 under there refl refl in (
          from_parent agents c.0,
          down c.0 refl c.1 c.2 way,
          λ z. (let r = route-parent agents nodes k (from_parent agents c.0) z in let x = r.2 in
              absurd (omega arith)),
        ))
  ]

  -- A route that doesn't lead to the parent is for replies.
  route-fits : (k a route : ℕ) → a < agents → IsRoute (layout_of Tree agents nodes) k a route →
      (IsLink (layout_of Tree agents nodes) route (agents + k) (agents + step_up k) → ⊥) →
      (route < links) × ((route ≡ from_home a)
      ⊎ ((c : ℕ) × (0 < c) × (c < nodes) × IsUnder c (a % nodes) × (route ≡ from_parent agents c)))
  route-fits k a route low (direct h) never = let e = route-direct agents nodes k a route low h in
      (omega arith, inl e)
  route-fits k a route low (down c shape child under h) never =
      let e = route-child agents nodes k c route child h in let e0 = e.0 in let e1 = e.1 in
      let some = child.0 in (omega arith, inr (c, child.0, e.0, under, e.1))
  route-fits k a route low (up shape not h) never = absurd (never h)

  -- No route of the root leads to a parent.
  pub root-never : (k route : ℕ) → k ≡ 0 →
      IsLink (layout_of Tree agents nodes) route (agents + k) (agents + step_up k) → ⊥
  root-never k route root h = let r = route-parent agents nodes k route h in let x = r.0 in
      absurd (omega arith)

  -- All links of Pass are there.
  agents-there : (k came i count : ℕ) → i + count ≡ agents →
      Each (λ o. o < links) (agents_of (layout_of Tree agents nodes) k came i count)
  agents-there k came i zero len = tt
  agents-there k came i (suc count) len =
      let rest = agents-there k came (i + 1) count (omega arith) in
      elim (cases_eq (i % nodes) k) [
        | inr e ↦ (let z : (i % nodes == k) ≡ false = ne_eqb (i % nodes) k e in rw z rest)
        | inl e ↦ (let z : (i % nodes == k) ≡ true = eq-eqb (i % nodes) k e in
            elim (cases_eq came (to_home i)) [
              | inl f ↦ (let y : (came == to_home i) ≡ true = eq-eqb came (to_home i) f in
                  rw (z, y) rest)
              | inr f ↦ (let y : (came == to_home i) ≡ false = ne_eqb came (to_home i) f in
                  rw (z, y) (omega arith, rest))
            ])
      ]

  -- The link to the parent is there,
  parent-there : (k came : ℕ) → k < nodes →
      Each (λ o. o < links) (parent_of (layout_of Tree agents nodes) k came)
  parent-there k came low = elim (cases_eq k 0) [
    | inl e ↦ (let z : (k == 0) ≡ true = eq-eqb k 0 e in rw z tt)
    | inr e ↦ (let z : (k == 0) ≡ false = ne_eqb k 0 e in
        elim (cases_eq came (from_parent agents k)) [
          | inl f ↦ (let y : (came == from_parent agents k) ≡ true =
              eq-eqb came (from_parent agents k) f in rw (z, y) tt)
          | inr f ↦ (let y : (came == from_parent agents k) ≡ false =
              ne_eqb came (from_parent agents k) f in rw (z, y) (omega arith, tt))
        ])
  ]

  -- and that to a child,
  child-there : (c came : ℕ) → 0 < c →
      Each (λ o. o < links) (child_of (layout_of Tree agents nodes) c came)
  child-there c came some = elim (cases_lt c nodes) [
    | inr e ↦ (let z : nat_lt c nodes ≡ false = le-ltb c nodes e in rw z tt)
    | inl e ↦ (let z : nat_lt c nodes ≡ true = lt-ltb c nodes e in
        elim (cases_eq came (to_parent agents c)) [
          | inl f ↦ (let y : (came == to_parent agents c) ≡ true =
              eq-eqb came (to_parent agents c) f in rw (z, y) tt)
          | inr f ↦ (let y : (came == to_parent agents c) ≡ false =
              ne_eqb came (to_parent agents c) f in rw (z, y) (omega arith, tt))
        ])
  ]

  -- so all are.
  outs-there : (k sender came : ℕ) → k < nodes →
      Each (λ o. o < links) (tree_outs (layout_of Tree agents nodes) k sender came)
  outs-there k sender came low =
      let p = layout_of Tree agents nodes in
      each-append (λ o. o < links) (agents_of (layout_of Tree agents nodes) k came 0 agents)
      (parent_of (layout_of Tree agents nodes) k came
      ++ (child_of (layout_of Tree agents nodes) (2 * k + 1) came
      ++ child_of (layout_of Tree agents nodes) (2 * k + 2) came))
      (agents-there k came 0 agents (omega arith))
      (each-append (λ o. o < links) (parent_of (layout_of Tree agents nodes) k came)
      (child_of (layout_of Tree agents nodes) (2 * k + 1) came
      ++ child_of (layout_of Tree agents nodes) (2 * k + 2) came)
      (parent-there k came low)
      (each-append (λ o. o < links) (child_of (layout_of Tree agents nodes) (2 * k + 1) came)
      (child_of (layout_of Tree agents nodes) (2 * k + 2) came)
      (child-there (2 * k + 1) came (omega arith)) (child-there (2 * k + 2) came (omega arith))))

module _ {L : Type 0} (agents nodes : ℕ) where
  -- A packet on a link that is there, where it may be.
  abbrev Out : ℕ × Packet L → Type 0
  Out x = (x.0 < link_count (layout_of Tree agents nodes)) × TreeFits agents nodes x.0 x.1

  -- What a row of requests and replies sends is on a link that is there, and fits.
  asks-fit : (k l : ℕ) (p : Packet L) (drew : Option Grant) (sends : List (ℕ × Packet L)) →
      TreeAsks (layout_of Tree agents nodes) k l p drew sends → k < nodes →
      TreeEnd agents nodes k l → TreeFits agents nodes l p → Each Out sends
  asks-fit k l (Request a) (Some g) sends h low ends fits =
      let r = route-fits agents nodes k a h.2.0 h.0 h.2.1 (root-never agents nodes k h.2.0 h.1) in
      subst (Each Out) (sym h.2.3) ((r.0, (h.0, r.1)), tt)
  asks-fit k l (Request a) None sends h low ends fits =
      let some : 0 < k = omega arith in
      subst (Each Out) (sym h.2.3) (
        (
          omega arith,
          (h.0, inr (k, some, low, request-under agents nodes k l a h.0 ends fits.1, refl)),
        ),
        tt,
      )
  asks-fit k l (Reply a g) None sends h low ends fits =
      let r = route-fits agents nodes k a h.3.0 h.0 h.3.1 h.3.2 in
      subst (Each Out) (sym h.3.3) ((r.0, (h.0, r.1)), tt)
  asks-fit k l (Reply a g) (Some d) sends h low ends fits = absurd h
  asks-fit k l (Message n sender content) drew sends h low ends fits = absurd h

  -- It is no message,
  asks-none : (P : ℕ → ℕ → Content L →
      Type 0) (k l : ℕ) (p : Packet L) (drew : Option Grant) (sends : List (ℕ × Packet L)) →
      TreeAsks (layout_of Tree agents nodes) k l p drew sends → Each (λ x. IfMessage P x.1) sends
  asks-none P k l (Request a) (Some g) sends h =
      subst (Each (λ x. IfMessage P x.1)) (sym h.2.3) (tt, tt)
  asks-none P k l (Request a) None sends h =
      subst (Each (λ x. IfMessage P x.1)) (sym h.2.3) (tt, tt)
  asks-none P k l (Reply a g) None sends h =
      subst (Each (λ x. IfMessage P x.1)) (sym h.3.3) (tt, tt)
  asks-none P k l (Reply a g) (Some d) sends h = absurd h
  asks-none P k l (Message n sender content) drew sends h = absurd h

  -- and counts for no goal,
  asks-messages : (k l : ℕ) (p : Packet L) (drew : Option Grant) (sends : List (ℕ × Packet L)) →
      TreeAsks (layout_of Tree agents nodes) k l p drew sends → (n : ℕ) (goal : Goal) →
      of_packets (message_on (tree_leads agents nodes) n goal) sends ≡ 0
  asks-messages k l (Request a) (Some g) sends h n goal =
      ap (of_packets (message_on (tree_leads agents nodes) n goal)) h.2.3
  asks-messages k l (Request a) None sends h n goal =
      ap (of_packets (message_on (tree_leads agents nodes) n goal)) h.2.3
  asks-messages k l (Reply a g) None sends h n goal =
      ap (of_packets (message_on (tree_leads agents nodes) n goal)) h.3.3
  asks-messages k l (Reply a g) (Some d) sends h n goal = absurd h
  asks-messages k l (Message m sender content) drew sends h n goal = absurd h

  -- but for the same agent,
  asks-asks : (k l : ℕ) (p : Packet L) (drew : Option Grant) (sends : List (ℕ × Packet L)) →
      TreeAsks (layout_of Tree agents nodes) k l p drew sends → (x : ℕ) →
      of_packets (asks_on x) sends ≡ asks_on x l p
  asks-asks k l (Request a) (Some g) sends h x =
      let e : of_packets (asks_on x) sends ≡ (if a == x then 1 else 0) + 0 =
      ap (of_packets (asks_on x)) h.2.3 in omega arith
  asks-asks k l (Request a) None sends h x =
      let e : of_packets (asks_on x) sends ≡ (if a == x then 1 else 0) + 0 =
      ap (of_packets (asks_on x)) h.2.3 in omega arith
  asks-asks k l (Reply a g) None sends h x =
      let e : of_packets (asks_on x) sends ≡ (if a == x then 1 else 0) + 0 =
      ap (of_packets (asks_on x)) h.3.3 in omega arith
  asks-asks k l (Reply a g) (Some d) sends h x = absurd h
  asks-asks k l (Message m sender content) drew sends h x = absurd h

  -- and with the same number or the one that was drawn.
  asks-replies : (k l : ℕ) (p : Packet L) (drew : Option Grant) (sends : List (ℕ × Packet L)) →
      TreeAsks (layout_of Tree agents nodes) k l p drew sends → (n : ℕ) →
      total (sends_number n) sends ≡ replies_number n p + draws_number n drew
  asks-replies k l (Request a) (Some g) sends h n =
      let e : total (sends_number n) sends ≡ grants_number n g + 0 =
      ap (total (sends_number n)) h.2.3 in omega arith
  asks-replies k l (Request a) None sends h n = let e : total (sends_number n) sends ≡ 0 =
      ap (total (sends_number n)) h.2.3 in omega arith
  asks-replies k l (Reply a g) None sends h n =
      let e : total (sends_number n) sends ≡ grants_number n g + 0 =
      ap (total (sends_number n)) h.3.3 in omega arith
  asks-replies k l (Reply a g) (Some d) sends h n = absurd h
  asks-replies k l (Message m sender content) drew sends h n = absurd h

  -- A request that may come has a row,
  request-row : (k l a : ℕ) → TreeEnd agents nodes k l →
      TreeFits {L = L} agents nodes l (Request a) →
      (drew : Option Grant) × (sends : List (ℕ × Packet L))
      × TreeAsks (layout_of Tree agents nodes) k l (Request a) drew sends
  request-row k l a ends fits =
      let r = request-route agents nodes k l a fits.0 ends fits.1 in
      elim (cases_eq k 0) [
        | inl root ↦ (
          Some Closed,
          (r.0, Reply a Closed) ∷ [],
          (fits.0, root, (r.0, r.1, r.2, refl)),
        )
        | inr some ↦ (
          None,
          (to_parent agents k, Request a) ∷ [],
          (fits.0, some, (r.0, r.1, r.2, refl)),
        )
      ]

  -- and so has a reply.
  reply-row : (k l a : ℕ) (grant : Grant) → 0 < nodes → TreeEnd agents nodes k l →
      TreeFits {L = L} agents nodes l (Reply a grant) →
      (drew : Option Grant) × (sends : List (ℕ × Packet L))
      × TreeAsks (layout_of Tree agents nodes) k l (Reply a grant) drew sends
  reply-row k l a grant some ends fits =
      let u = reply-under agents nodes k l a fits.0 ends fits.1 in
      let r = reply-route agents nodes k a fits.0 some u.3 in (
        None,
        (r.0, Reply a grant) ∷ [],
        (
          fits.0,
          (λ e. let z = u.0 in absurd (omega arith)),
          tree_down k refl u.0 u.1 refl refl u.2,
          (r.0, r.1, r.2, refl),
        ),
      )

  -- What is to be shown of a tree.
  pub tree-laws : 0 < nodes → KindLaws {L = L} (tree agents nodes) (layout_of Tree agents nodes)
  tree-laws some = record {
    flow = λ k l sender h goal. (let e = tree-to-node agents nodes k l (h.from, h.ends) in
        tree-flow agents nodes k l sender (end-there agents nodes k l some e) e goal);
    out_fits = λ k l sender n content h pos. (let e =
        tree-to-node agents nodes k l (h.from, h.ends) in
        each-map (λ o. o < link_count (layout_of Tree agents nodes))
        (λ o. Out (o, Message n sender content)) (λ o low. (low, (pos, h.known)))
        (tree_outs (layout_of Tree agents nodes) k sender l)
        (outs-there agents nodes k sender l (end-there agents nodes k l some e)));
    message_row = λ k l n sender content ends fits.
        (fits.0, record { known = fits.1; from = ends.0; ends = ends.1 });
    asking = record {
      request_row = λ k l a ends fits. request-row k l a (tree-to-node agents nodes k l ends) fits;
      reply_row = λ k l a grant ends fits. reply-row k l a grant some
          (tree-to-node agents nodes k l ends) fits;
      fits = λ k l p drew sends h ends fits. (let e = tree-to-node agents nodes k l ends in
          asks-fit k l p drew sends h (end-there agents nodes k l some e) e fits);
      none = asks-none;
      messages = asks-messages;
      asks = asks-asks;
      replies = asks-replies;
    };
    reaches_nodes = λ k low. early-bit k nodes 1 low;
    reaches_agents = λ i low. early-bit i agents 1 low;
    nodes_are = refl;
  }

  -- The facts on the plan of a tree.
  pub tree-ways : (limit pick : ℕ) →
      Ways (store_flow {L = L} (tree agents nodes)) (tree_rules agents nodes limit pick)
  tree-ways limit pick = record {
    no_request = λ i l a ends fits. (let x = tree-to-agent agents nodes i l ends in
        let low = ends.0 in
        elim fits.1 [
          | inl own ↦ absurd (omega arith)
          | inr on ↦ (let y = on.4 in absurd (omega arith))
        ]);
    own_reply = λ i l a g ends fits. (let x = tree-to-agent agents nodes i l ends in
        let low = ends.0 in
        elim fits.1 [ inl own ↦ omega arith | inr on ↦ (let y = on.4 in absurd (omega arith)) ]);
    positive = λ l n sender content fits. fits.0;
    arrives = λ i l n sender content ends fits goal.
        ap (λ v. tree_leads agents nodes sender v goal) (tree-to-agent agents nodes i l ends)
        ∙ ap (λ v. tree_leads_on agents nodes v goal) (down-at agents i ends.0);
    there = λ i packets low. omega arith;
    request = λ i packets low. (low, inl refl);
    message = λ i packets n content low pos. (pos, low);
    starts = λ i packets low goal. (let a : tree_leads agents nodes i (2 * i) goal
        ≡ inside agents nodes goal - at_agent i goal =
        ap (λ v. tree_leads_on agents nodes v goal) (up-at agents i low) in
        let b = own-part agents nodes i goal low in omega arith);
    once = inside-once agents nodes;
    agents_are = refl;
    links_are = refl;
  }
