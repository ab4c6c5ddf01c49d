-- What the ring owes: its plan, and its rows of requests and replies.
use Rattle.std.proofs.Common.{◌≡◌, ℕ, zero, suc, ◌+◌, ◌-◌, ◌*◌, ◌%◌, ◌<◌, ◌≤◌, List, [], ◌∷◌, refl}
use Rattle.std.proofs.Common.{sym, ap, ◌∙◌, subst, arith, inl, inr}
use Rattle.std.specs.Prelude.{Option, Some, None, ◌==◌, Bool, true, false, if◌then◌else◌}
use Rattle.std.proofs.lemmas.Bool.{eqb-false, eq-eqb, ne_eqb, cases_eq, cases_lt}
use Rattle.std.proofs.Math.Nat.{mod-one}
use Rattle.abc_value.specs.declared.grant.Grant.{Grant}
use Rattle.abc_value.specs.declared.grant.Grant.TheVariants.{Closed}
use Rattle.abc_packet.specs.declared.packets.Content.{Content}
use Rattle.abc_packet.specs.declared.packets.Packet.{Packet}
use Rattle.abc_packet.specs.declared.packets.Packet.TheVariants.{Request, Reply, Message}
use Rattle.abc_shape.specs.declared.shape.Shape.TheVariants.{Ring}
use Rattle.abc_shape.specs.Plans.{layout_of, home, successor, link_count}
use Rattle.abc_network.specs.Links.{from_home, to_successor}
use Rattle.abc_network.specs.Rings.{RingAccepts, RingAsks, homed_from, ring_outs}
use Rattle.abc_network.specs.Shapes.{ring_rules}
use Rattle.abc_network_laws.specs.Counts.{IfMessage, replies_number, draws_number, grants_number}
use Rattle.abc_network_laws.specs.Kept.{Each, total, sends_number}
use Rattle.abc_network_laws.specs.Charges.{of_packets}
use Rattle.abc_network_laws.specs.Flows.{Goal, ToAgent, ToNode, at_agent, message_on, asks_on, Ways}
use Rattle.abc_network_laws.specs.StoreFlows.{AskLaws, KindLaws, store_flow}
use Rattle.abc_network_laws.specs.RingFlows.{inside, ring_leads, ring_leads_on, RingFits, ring}
use Rattle.abc_network_laws.proofs.Lists.{each-append}
use Rattle.abc_network_laws.proofs.Places.{bit-yes, bit-no, early-bit, late-bit}
use Rattle.abc_network_laws.proofs.RingFlow.{ring-flow, up-at, down-at}
use Rattle.abc_network_laws.proofs.RingLinks.{RingEnd, ring-to-agent, ring-to-node}

-- How many links there are, where there are several nodes.
many-links : (agents nodes : ℕ) → 1 < nodes →
    link_count (layout_of Ring agents nodes) ≡ 2 * agents + nodes
many-links agents nodes more = let e : (nodes == 1) ≡ false =
    ne_eqb nodes 1 (λ s. absurd (omega arith)) in rw e refl

-- The links of agents are within the count.
own-links : (agents nodes : ℕ) → 2 * agents ≤ link_count (layout_of Ring agents nodes)
own-links agents nodes = omega arith

-- Each part of what is said of an agent counts at most once.
pub own-part : (agents nodes s : ℕ) (goal : Goal) → s < agents →
    at_agent s goal ≤ inside agents nodes goal
own-part agents nodes s (ToNode k) low = omega arith
own-part agents nodes s (ToAgent j) low = elim (cases_eq s j) [
  | inl e ↦ (let a = bit-yes s j 1 e in
      let b = early-bit j agents 1 (subst (λ v. v < agents) e low) in omega arith)
  | inr e ↦ (let a = bit-no s j 1 e in omega arith)
]

-- Each goal is reached at most once.
pub inside-once : (agents nodes : ℕ) (goal : Goal) → inside agents nodes goal ≤ 1
inside-once agents nodes (ToNode k) =
    elim (cases_lt k nodes) [
      | inl e ↦ (let a = early-bit k nodes 1 e in omega arith)
      | inr e ↦ (let a = late-bit k nodes 1 e in omega arith)
    ]
inside-once agents nodes (ToAgent j) =
    elim (cases_lt j agents) [
      | inl e ↦ (let a = early-bit j agents 1 e in omega arith)
      | inr e ↦ (let a = late-bit j agents 1 e in omega arith)
    ]

-- A link's end is a node that is there.
end-node : (agents nodes k l : ℕ) → RingEnd agents nodes k l → 0 < nodes → k < nodes
end-node agents nodes k l (inl h) some = let e = h.2 in
    let a : h.0 % nodes < nodes = omega arith in omega arith
end-node agents nodes k l (inr h) some = let e = h.3 in
    let a : (h.0 + 1) % nodes < nodes = omega arith in omega arith

-- What is said of the last link, where there is one.
tail-each : (P : ℕ → Type 0) (b : Bool) (x : ℕ) → (b ≡ false → P x) →
    Each P (if b then [] else x ∷ [])
tail-each P true x h = tt
tail-each P false x h = (h refl, tt)

module _ {L : Type 0} (agents nodes : ℕ) where
  -- A packet on a link that is there, where it may be.
  abbrev Out : ℕ × Packet L → Type 0
  Out x = (x.0 < link_count (layout_of Ring agents nodes)) × RingFits agents nodes x.0 x.1

  -- A message on a link that ends at a node is accepted there.
  fits-accepts : (k l n sender : ℕ) (content : Content L) → k < nodes → RingEnd agents nodes k l →
      RingFits {L = L} agents nodes l (Message n sender content) →
      RingAccepts (layout_of Ring agents nodes) k l sender
  fits-accepts k l n sender content low (inl h) fits = elim fits.2 [
    | inl own ↦ (let same : h.0 ≡ sender = (let a = h.3 in omega arith) in
        record {
          node = low;
          known = fits.1;
          comes = inl (subst (λ v. home (layout_of Ring agents nodes) v ≡ k) same h.2, own);
        })
    | inr other ↦ elim other [
      | inl down ↦ absurd (let a = h.3 in let b = down.3 in omega arith)
      | inr on ↦ absurd (let a = h.3 in let b = on.3 in let c = h.1 in omega arith)
    ]
  ]
  fits-accepts k l n sender content low (inr h) fits = elim fits.2 [
    | inl own ↦ absurd (let a = h.4 in let b = fits.1 in omega arith)
    | inr other ↦ elim other [
      | inl down ↦ absurd (let a = h.4 in let b = down.3 in let c = down.1 in omega arith)
      | inr on ↦ (
          let same : on.0 ≡ h.0 = (let a = h.4 in let b = on.3 in omega arith) in
          let away : (home (layout_of Ring agents nodes) sender ≡ k → ⊥) =
          (λ e. on.2 (ap (successor (layout_of Ring agents nodes)) same ∙ (h.3 ∙ sym e))) in
          record { node = low; known = fits.1; comes = inr (away, (h.0, h.2, h.3, h.4)) })
    ]
  ]

  -- Copies to agents at a node go on links that are there, and fit.
  homed-fit : (k sender n i count : ℕ) (content : Content L) → 0 < n → sender < agents →
      i + count ≡ agents → Each (λ o. Out (o, Message n sender content))
      (homed_from (layout_of Ring agents nodes) k sender i count)
  homed-fit k sender n i zero content pos low len = tt
  homed-fit k sender n i (suc count) content pos low len =
      let rest = homed-fit k sender n (i + 1) count content pos low (omega arith) in
      let many = own-links agents nodes in
      elim (cases_eq i sender) [
        | inl e ↦ (let q : (i == sender) ≡ true = eq-eqb i sender e in rw q rest)
        | inr e ↦ (let q : (i == sender) ≡ false = ne_eqb i sender e in
            elim (cases_eq (i % nodes) k) [
              | inl h ↦ (let z : (i % nodes == k) ≡ true = eq-eqb (i % nodes) k h in
                  rw (q, z) ((omega arith, (pos, low, inr (inl (i, omega arith, e, refl)))), rest))
              | inr h ↦ (let z : (i % nodes == k) ≡ false = ne_eqb (i % nodes) k h in rw (q, z) rest)
            ])
      ]

  -- All copies go on links that are there, and fit.
  outs-fit : (k l sender n : ℕ) (content : Content L) →
      RingAccepts (layout_of Ring agents nodes) k l sender → 0 < n →
      Each (λ o. Out (o, Message n sender content))
      (ring_outs (layout_of Ring agents nodes) k sender l)
  outs-fit k l sender n content h pos =
      let low = h.node in
      each-append (λ o. Out (o, Message n sender content))
      (homed_from (layout_of Ring agents nodes) k sender 0 agents)
      (if successor (layout_of Ring agents nodes) k == home
      (layout_of Ring agents nodes) sender then [] else to_successor agents k ∷ [])
      (homed-fit k sender n 0 agents content pos h.known (omega arith))
      (tail-each (λ o. Out (o, Message n sender content))
      (successor (layout_of Ring agents nodes) k == home (layout_of Ring agents nodes) sender)
      (to_successor agents k) (λ e.
      let away : ((k + 1) % nodes ≡ sender % nodes → ⊥) =
      eqb-false ((k + 1) % nodes) (sender % nodes) e in
      let several : 1 < nodes = (elim (cases_lt 1 nodes) [
        | inl q ↦ q
        | inr q ↦ (let one : nodes ≡ 1 = omega arith in absurd (away (
            ap (λ v. (k + 1) % v) one ∙ (mod-one (k + 1)
            ∙ sym (ap (λ v. sender % v) one ∙ mod-one sender)))))
      ]) in
      let count = many-links agents nodes several in
      (omega arith, (pos, h.known, inr (inr (k, h.node, away, refl))))))

  -- The row of requests.
  asks-row : (k l : ℕ) (p : Packet L) (drew : Option Grant) (sends : List (ℕ × Packet L)) →
      RingAsks (layout_of Ring agents nodes) k l p drew sends →
      (a : ℕ) × (g : Grant) × (p ≡ Request a) × (drew ≡ Some g) × (a < agents)
      × (sends ≡ (from_home a, Reply a g) ∷ [])
  asks-row k l (Request a) (Some g) sends h = (a, g, refl, refl, h.0, h.3)
  asks-row k l (Request a) None sends h = absurd h
  asks-row k l (Reply a g) drew sends h = absurd h
  asks-row k l (Message n sender content) drew sends h = absurd h

  -- What a request does at a node of a ring.
  pub ring-asks : AskLaws {L = L} (ring agents nodes) (layout_of Ring agents nodes)
  ring-asks = record {
    request_row = λ k l a ends fits. elim (ring-to-node agents nodes k l ends) [
      | inl h ↦ (let same : h.0 ≡ a = (let x = h.3 in let y = fits.1 in omega arith) in (
        Some Closed,
        (from_home a, Reply a Closed) ∷ [],
        (
          fits.0,
          subst (λ v. home (layout_of Ring agents nodes) v ≡ k) same h.2,
          fits.1,
          refl,
        ),
      ))
      | inr h ↦ absurd (let x = h.4 in let y = fits.1 in let z = fits.0 in omega arith)
    ];
    reply_row = λ k l a grant ends fits. absurd (elim (ring-to-node agents nodes k l ends) [
      | inl h ↦ (let x = h.3 in let y = fits.1 in absurd (omega arith))
      | inr h ↦ (let x = h.4 in let y = fits.1 in let z = fits.0 in absurd (omega arith))
    ]);
    fits = λ k l p drew sends h ends fits. (let r = asks-row k l p drew sends h in
        let many = own-links agents nodes in let low = r.4 in
        subst (Each Out) (sym r.5) ((omega arith, (r.4, refl)), tt));
    none = λ P k l p drew sends h. (let r = asks-row k l p drew sends h in
        subst (Each (λ x. IfMessage P x.1)) (sym r.5) (tt, tt));
    messages = λ k l p drew sends h n goal. (let r = asks-row k l p drew sends h in
        ap (of_packets (message_on (ring_leads agents nodes) n goal)) r.5);
    asks = λ k l p drew sends h a. (let r = asks-row k l p drew sends h in
        let x : of_packets (asks_on a) sends ≡ (if r.0 == a then 1 else 0) + 0 =
        ap (of_packets (asks_on a)) r.5 in
        let y : asks_on a l p ≡ (if r.0 == a then 1 else 0) = ap (asks_on a l) r.2 in omega arith);
    replies = λ k l p drew sends h n. (let r = asks-row k l p drew sends h in
        let x : total (sends_number n) sends ≡ grants_number n r.1 + 0 =
        ap (total (sends_number n)) r.5 in
        let y : replies_number n p ≡ 0 = ap (replies_number n) r.2 in
        let z : draws_number n drew ≡ grants_number n r.1 = ap (draws_number n) r.3 in omega arith);
  }

  -- What is to be shown of a ring.
  pub ring-laws : 0 < nodes → KindLaws {L = L} (ring agents nodes) (layout_of Ring agents nodes)
  ring-laws some = record {
    flow = λ k l sender h goal. ring-flow agents nodes k l sender h goal;
    out_fits = λ k l sender n content h pos. outs-fit k l sender n content h pos;
    message_row = λ k l n sender content ends fits. (let e = ring-to-node agents nodes k l ends in
        (fits.0, fits-accepts k l n sender content (end-node agents nodes k l e some) e fits));
    asking = ring-asks;
    reaches_nodes = λ k low. early-bit k nodes 1 low;
    reaches_agents = λ i low. early-bit i agents 1 low;
    nodes_are = refl;
  }

  -- The facts on the plan of a ring.
  pub ring-ways : (limit pick : ℕ) →
      Ways (store_flow {L = L} (ring agents nodes)) (ring_rules agents nodes limit pick)
  ring-ways limit pick = record {
    no_request = λ i l a ends fits. (let x = ring-to-agent agents nodes i l ends in
        let y = fits.1 in absurd (omega arith));
    own_reply = λ i l a g ends fits. (let x = ring-to-agent agents nodes i l ends in
        let y = fits.1 in omega arith);
    positive = λ l n sender content fits. fits.0;
    arrives = λ i l n sender content ends fits goal.
        ap (λ v. ring_leads agents nodes sender v goal) (ring-to-agent agents nodes i l ends)
        ∙ ap (λ v. ring_leads_on agents nodes sender v goal) (down-at agents i ends.0);
    there = λ i packets low. (let many = own-links agents nodes in omega arith);
    request = λ i packets low. (low, refl);
    message = λ i packets n content low pos. (pos, low, inl refl);
    starts = λ i packets low goal. (let a : ring_leads agents nodes i (2 * i) goal
        ≡ inside agents nodes goal - at_agent i goal =
        ap (λ v. ring_leads_on agents nodes i v goal) (up-at agents i low) in
        let b = own-part agents nodes i goal low in omega arith);
    once = inside-once agents nodes;
    agents_are = refl;
    links_are = refl;
  }
