-- Copies in a ring: each goes from node to node until the next would be the sender's home.
use Rattle.std.proofs.Common.{◌≡◌, ◌≢◌, ℕ, zero, suc, ◌+◌, ◌-◌, ◌*◌, ◌%◌, ◌<◌, ◌≤◌, List, [], refl, sym, ap, ◌∙◌, arith, inl, inr}
use Rattle.std.specs.Prelude.{◌⊎◌, nat_lt, true, false, if◌then◌else◌}
use Rattle.std.proofs.Math.Nat.{mod_self, mod-eq_of_lt}
use Rattle.std.proofs.lemmas.Bool.{cases_eq, cases_lt, lt-ltb, le-ltb}
use Rattle.std.proofs.lemmas.Nat.{mod_below}
use Rattle.abc_shape.specs.declared.shape.Shape.TheVariants.{Cluster, Ring, Tree}
use Rattle.abc_shape.specs.declared.layout.Layout.{Layout}
use Rattle.abc_shape.specs.Plans.{IsLayout, actor_of, home, successor, IsLink, along, home_down}
use Rattle.abc_shape.proofs.Ended.{up-number, down-number, ends-below}
use Rattle.abc_shape_laws.specs.Copies.{to_agent, to_successor, Comes, there, onward}
use Rattle.abc_shape_laws.specs.CopyLaws.{RingCopies}
use Rattle.abc_shape_laws.specs.Flows.{place}
use Rattle.abc_shape_laws.proofs.Links.{same-ends}
use Rattle.abc_shape_laws.proofs.Flows.{Rule, agents, next, others, Out, Flow, comes-once, comes-not_back}

-- ---- How far a node is along the ring from another

abbrev pub far : ℕ → ℕ → ℕ → ℕ
far n h k = if nat_lt k h then k + n - h else k - h

far-is : (n h k : ℕ) → ((k < h) × (far n h k ≡ k + n - h)) ⊎ ((h ≤ k) × (far n h k ≡ k - h))
far-is n h k = elim (cases_lt k h) [
  | inl e ↦ inl (e, let z : nat_lt k h ≡ true = lt-ltb k h e in rw z refl)
  | inr e ↦ inr (e, let z : nat_lt k h ≡ false = le-ltb k h e in rw z refl)
]

far-below : (n h k : ℕ) → h < n → k < n → far n h k < n
far-below n h k a b = elim (far-is n h k) [ inl (c, d) ↦ omega arith | inr (c, d) ↦ omega arith ]

far-same : (n h j k : ℕ) → h < n → j < n → k < n → far n h j ≡ far n h k → j ≡ k
far-same n h j k a b c e = elim (far-is n h j) [
  | inl (p, q) ↦ elim (far-is n h k) [ inl (r, s) ↦ omega arith | inr (r, s) ↦ omega arith ]
  | inr (p, q) ↦ elim (far-is n h k) [ inl (r, s) ↦ omega arith | inr (r, s) ↦ omega arith ]
]

far-none : (n h : ℕ) → far n h h ≡ 0
far-none n h = elim (far-is n h h) [ inl (c, d) ↦ omega arith | inr (c, d) ↦ omega arith ]

after : (n k : ℕ) → k < n → ((k + 1 ≡ n) × ((k + 1) % n ≡ 0)) ⊎ ((k + 1 < n) × ((k + 1) % n ≡ k + 1))
after n k low = elim (cases_eq (k + 1) n) [
  | inl e ↦ inl (e, ap (λ x. x % n) e ∙ mod_self n)
  | inr e ↦ (let more : k + 1 < n = omega arith in inr (more, mod-eq_of_lt more))
]

-- one further, until the ring is closed
far-next : (n h k : ℕ) → h < n → k < n → ((k + 1) % n ≡ h → ⊥) → far n h ((k + 1) % n) ≡ far n h k + 1
far-next n h k a b ne = elim (after n k b) [
  | inl (last, e) ↦ elim (far-is n h k) [
    | inl (p, q) ↦ omega arith
    | inr (p, q) ↦ elim (far-is n h ((k + 1) % n)) [ inl (r, s) ↦ omega arith | inr (r, s) ↦ absurd (ne (omega arith)) ]
  ]
  | inr (more, e) ↦ elim (far-is n h k) [
    | inl (p, q) ↦ elim (far-is n h ((k + 1) % n)) [ inl (r, s) ↦ omega arith | inr (r, s) ↦ absurd (ne (omega arith)) ]
    | inr (p, q) ↦ elim (far-is n h ((k + 1) % n)) [ inl (r, s) ↦ omega arith | inr (r, s) ↦ omega arith ]
  ]
]

-- the last node before the ring is closed is as far as can be
far-last : (n h k : ℕ) → h < n → k < n → (k + 1) % n ≡ h → far n h k + 1 ≡ n
far-last n h k a b e = elim (after n k b) [
  | inl (last, x) ↦ elim (far-is n h k) [ inl (p, q) ↦ omega arith | inr (p, q) ↦ omega arith ]
  | inr (more, x) ↦ elim (far-is n h k) [ inl (p, q) ↦ omega arith | inr (p, q) ↦ omega arith ]
]

-- ---- Where an actor is: an agent at its home, a node at itself

pub place-agent : (p : Layout) (i : ℕ) → i < p.agents → place p i ≡ home p i
place-agent p i low = let z : nat_lt i p.agents ≡ true = lt-ltb i p.agents low in rw z refl

pub place-node : (p : Layout) (k : ℕ) → place p (actor_of p k) ≡ k
place-node p k = let z : nat_lt (p.agents + k) p.agents ≡ false = le-ltb (p.agents + k) p.agents (omega arith) in rw z (omega arith)

-- ---- The flow

no-cluster : (p : Layout) → p.shape ≡ Ring → p.shape ≢ Cluster
no-cluster p r c = let two : Ring ≡ Cluster = sym r ∙ c in cc

no-tree : (p : Layout) → p.shape ≡ Ring → p.shape ≢ Tree
no-tree p r t = let two : Ring ≡ Tree = sym r ∙ t in cc

-- What node k sends on: to an agent that is homed there, or along the ring.
data Onward (p : Layout) (s k to : ℕ) : Type 0 where
  down : to < p.agents → to ≢ s → k ≡ home p to → Onward p s k to
  round : k < p.nodes → successor p k ≢ home p s → to ≡ actor_of p (successor p k) → Onward p s k to

view : (p : Layout) (s from k link to : ℕ) → IsLayout p → p.shape ≡ Ring → Out p s from k link to → Onward p s k to
view p s from k link to l r o = view-rule o.rule
  where
    view-rule : Rule p s from k to → Onward p s k to
    view-rule (agents t low ne) = elim (down-number p link to k low o.link_is) [ inl x ↦ absurd (no-cluster p r x.0) | inr x ↦ down low ne x.1 ]
    view-rule (next t ne e) = let x = (ends-below p link _ _ l o.link_is).0 in round (omega arith) ne e
    view-rule (others t ne) = absurd (no-tree p r t)

-- Which links carry copies: to agents, from agents, and along the ring, but not to the sender's home.
data Carries (p : Layout) (s from to : ℕ) : Type 0 where
  to_one : to < p.agents → Carries p s from to
  from_one : from < p.agents → Carries p s from to
  along_ring : (j : ℕ) → j < p.nodes → from ≡ actor_of p j → to ≡ actor_of p (successor p j) → successor p j ≢ home p s → Carries p s from to

-- A link to an agent leads there; one along the ring leads to all that is further from the sender's home.
record RingLeads (p : Layout) (s from to goal : ℕ) : Type 0 where
  to_it : to < p.agents → goal ≡ to
  further : (j : ℕ) → from ≡ actor_of p j → p.agents ≤ to → far p.nodes (home p s) j < far p.nodes (home p s) (place p goal)

home-in : (p : Layout) (s : ℕ) → IsLayout p → home p s < p.nodes
home-in p s l = mod_below s p.nodes (omega (arith, l.some_nodes))

ring-arrives : (p : Layout) (s from to : ℕ) → IsLayout p → Carries p s from to → RingLeads p s from to to
ring-arrives p s from to l (to_one low) = record { to_it = λ x. refl; further = λ j e high. absurd (omega arith) }
ring-arrives p s from to l (from_one low) = record { to_it = λ x. refl; further = λ j e high. absurd (omega arith) }
ring-arrives p s from to l (along_ring k k_low f t ne) = record {
  to_it = λ x. refl;
  further = λ j e high. (
      let same : j ≡ k = omega arith in
      let here : place p to ≡ successor p k = ap (place p) t ∙ place-node p (successor p k) in
      let step = far-next p.nodes (home p s) k (home-in p s l) k_low ne in
      let goal = ap (far p.nodes (home p s)) here in
      let from_is = ap (far p.nodes (home p s)) same in
      omega arith);
}

ring-fits : (p : Layout) (s k to : ℕ) → Onward p s k to → Carries p s (actor_of p k) to
ring-fits p s k to (down low ne e) = to_one low
ring-fits p s k to (round k_low ne e) = along_ring k k_low refl e ne

-- How far the goal is where it lies on the way on from k.
no-nearer : (p : Layout) (s k to goal : ℕ) → Onward p s k to → RingLeads p s (actor_of p k) to goal →
    far p.nodes (home p s) k ≤ far p.nodes (home p s) (place p goal)
no-nearer p s k to goal (down low ne e) lead =
    let same : place p goal ≡ k = ap (place p) (lead.to_it low) ∙ (place-agent p to low ∙ sym e) in
    let x = ap (far p.nodes (home p s)) same in omega arith
no-nearer p s k to goal (round k_low ne e) lead = let x = lead.further k refl (omega arith) in omega arith

ring-behind : (p : Layout) (s from k to goal : ℕ) → IsLayout p → Carries p s from (actor_of p k) → Onward p s k to →
    RingLeads p s (actor_of p k) to goal → RingLeads p s from (actor_of p k) goal
ring-behind p s from k to goal l (to_one low) o lead = absurd (omega arith)
ring-behind p s from k to goal l (from_one low) o lead = record { to_it = λ x. absurd (omega arith); further = λ j e high. absurd (omega arith) }
ring-behind p s from k to goal l (along_ring i i_low f t ne) o lead = record {
  to_it = λ x. absurd (omega arith);
  further = λ j e high. (
      let same : j ≡ i = omega arith in
      let here : k ≡ successor p i = omega arith in
      let step = far-next p.nodes (home p s) i (home-in p s l) i_low ne in
      let a = ap (far p.nodes (home p s)) here in
      let b = ap (far p.nodes (home p s)) same in
      let c = no-nearer p s k to goal o lead in
      omega arith);
}

ring-leaves : (p : Layout) (s k to : ℕ) → Onward p s k to → RingLeads p s (actor_of p k) to (actor_of p k) → ⊥
ring-leaves p s k to (down low ne e) lead = let x = lead.to_it low in omega arith
ring-leaves p s k to (round k_low ne e) lead =
    let x = lead.further k refl (omega arith) in let y = ap (far p.nodes (home p s)) (place-node p k) in omega arith

down-and-round : (p : Layout) (s k to to' goal : ℕ) → to < p.agents → k ≡ home p to → p.agents ≤ to' → RingLeads p s (actor_of p k) to goal →
    RingLeads p s (actor_of p k) to' goal → ⊥
down-and-round p s k to to' goal low e high lead lead' =
    let same : place p goal ≡ k = ap (place p) (lead.to_it low) ∙ (place-agent p to low ∙ sym e) in
    let x = lead'.further k refl high in let y = ap (far p.nodes (home p s)) same in omega arith

ring-one : (p : Layout) (s k to to' goal : ℕ) → Onward p s k to → Onward p s k to' → RingLeads p s (actor_of p k) to goal →
    RingLeads p s (actor_of p k) to' goal → to ≡ to'
ring-one p s k to to' goal (down low ne e) (down low' ne' e') lead lead' = sym (lead.to_it low) ∙ lead'.to_it low'
ring-one p s k to to' goal (down low ne e) (round k_low ne' e') lead lead' = absurd (down-and-round p s k to to' goal low e
    (omega arith) lead lead')
ring-one p s k to to' goal (round k_low ne e) (down low ne' e') lead lead' = absurd (down-and-round p s k to' to goal low e'
    (omega arith) lead' lead)
ring-one p s k to to' goal (round k_low ne e) (round k_low' ne' e') lead lead' = e ∙ sym e'

ring-not_back : (p : Layout) (s k to : ℕ) → s < p.agents → Onward p s k to → RingLeads p s (actor_of p k) to s → ⊥
ring-not_back p s k to s_low (down low ne e) lead = ne (sym (lead.to_it low))
ring-not_back p s k to s_low (round k_low ne e) lead =
    let x = lead.further k refl (omega arith) in
    let y = ap (far p.nodes (home p s)) (place-agent p s s_low) in
    let z = far-none p.nodes (home p s) in omega arith

ring-flow : (p : Layout) (s : ℕ) → IsLayout p → p.shape ≡ Ring → s < p.agents → Flow p s
ring-flow p s l r low = record {
  Fits = Carries p s;
  Leads = RingLeads p s;
  arrives = λ from to fit. ring-arrives p s from to l fit;
  fits = λ from k link to fit o. ring-fits p s k to (view p s from k link to l r o);
  behind = λ from k link to goal fit o lead. ring-behind p s from k to goal l fit (view p s from k link to l r o) lead;
  leaves = λ from k link to o lead. ring-leaves p s k to (view p s from k link to l r o) lead;
  one = λ from k link to link' to' goal o o' lead lead'. ring-one p s k to to' goal (view p s from k link to l r o)
      (view p s from k link' to' l r o') lead lead';
  not_back = λ k came link to x o lead. ring-not_back p s k to low (view p s s k link to l r o) lead;
}

-- ---- A path to each

-- From a node, what comes there comes further along the ring.
goes-round : (d : ℕ) (p : Layout) (s k m link from goal : ℕ) → IsLayout p → p.shape ≡ Ring → k < p.nodes → m < p.nodes →
    far p.nodes (home p s) k + d ≡ far p.nodes (home p s) m →
    ((l f : ℕ) → IsLink p l f (actor_of p m) → (more : List ℕ) × Comes p s l more goal) →
    IsLink p link from (actor_of p k) → (more : List ℕ) × Comes p s link more goal
goes-round zero p s k m link from goal l r k_low m_low e last x =
    let same = far-same p.nodes (home p s) k m (home-in p s l) k_low m_low (omega arith) in
    last link from (same-ends p link from _ _ _ refl (ap (actor_of p) same) x)
goes-round (suc d) p s k m link from goal l r k_low m_low e last x =
    let h_low = home-in p s l in
    let m_far = far-below p.nodes (home p s) m h_low m_low in
    let ne : successor p k ≢ home p s = (λ y. let z = far-last p.nodes (home p s) k h_low k_low y in omega arith) in
    let step = far-next p.nodes (home p s) k h_low k_low ne in
    let next_low : successor p k < p.nodes = mod_below (k + 1) p.nodes (omega (arith, l.some_nodes)) in
    let y : IsLink p (2 * p.agents + k) (actor_of p k) (actor_of p (successor p k)) = along k r (omega arith) k_low refl refl refl in
    let more = goes-round d p s (successor p k) m (2 * p.agents + k) (actor_of p k) goal l r next_low m_low (omega arith) last y in
    (_, onward link from k (2 * p.agents + k) more.0 goal x (to_successor r ne y) more.1)

-- The first node is the sender's home.
sent-home : (p : Layout) (s k link : ℕ) → p.shape ≡ Ring → s < p.agents → IsLink p link s (actor_of p k) → k ≡ home p s
sent-home p s k link r low x = elim (up-number p link s k low x) [ inl y ↦ absurd (no-cluster p r y.0) | inr y ↦ y.1 ]

comes-to : (p : Layout) (s k m link goal : ℕ) → IsLayout p → p.shape ≡ Ring → s < p.agents → k < p.nodes → m < p.nodes →
    IsLink p link s (actor_of p k) →
    ((l f : ℕ) → IsLink p l f (actor_of p m) → (more : List ℕ) × Comes p s l more goal) → (more : List ℕ) × Comes p s link more goal
comes-to p s k m link goal l r low k_low m_low x last =
    let start : far p.nodes (home p s) k ≡ 0 = ap (far p.nodes (home p s)) (sent-home p s k link r low x) ∙ far-none p.nodes (home p s) in
    goes-round (far p.nodes (home p s) m) p s k m link s goal l r k_low m_low (omega arith) last x

to-agent : (p : Layout) (s i : ℕ) → p.shape ≡ Ring → i < p.agents → i ≢ s → (l f : ℕ) → IsLink p l f (actor_of p (home p i)) →
    (more : List ℕ) × Comes p s l more i
to-agent p s i r low ne l f x =
    let y : IsLink p (2 * i + 1) (actor_of p (home p i)) i = home_down i (no-cluster p r) low refl refl refl in
    (_, onward l f (home p i) (2 * i + 1) [] i x (to_agent i (no-tree p r) low ne y) (there (2 * i + 1) (actor_of p (home p i)) i y))

pub ring-copies : RingCopies
unfolding ring-flow
ring-copies p s link l r (low, (k, k_low, x)) =
    let f = ring-flow p s l r low in (
      record {
        others = λ i i_low ne. record {
          comes = comes-to p s k (home p i) link i l r low k_low (home-in p i l) x (to-agent p s i r i_low ne);
          once = λ ms ns a b. comes-once p s f link ms ns i a b s (actor_of p k) x (from_one low);
        };
        not_itself = λ ms a. comes-not_back p s f link k ms s low x (from_one low) a refl;
      },
      λ m m_low. record {
        comes = comes-to p s k m link (actor_of p m) l r low k_low m_low x (λ n g y. ([], there n g (actor_of p m) y));
        once = λ ms ns a b. comes-once p s f link ms ns (actor_of p m) a b s (actor_of p k) x (from_one low);
      },
    )
