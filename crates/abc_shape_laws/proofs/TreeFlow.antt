-- Copies in a tree: each goes on to every neighbour but the one from which it came.
use Rattle.std.proofs.Common.{◌≡◌, ◌≢◌, ℕ, ◌-◌, ◌<◌, ◌≤◌, List, refl, sym, ap, ◌∙◌, subst, arith, inl, inr}
use Rattle.std.proofs.lemmas.Bool.{cases_lt}
use Rattle.abc_shape.specs.declared.shape.Shape.TheVariants.{Cluster, Ring, Tree}
use Rattle.abc_shape.specs.declared.layout.Layout.{Layout}
use Rattle.abc_shape.specs.Plans.{actor_of, home, IsLink}
use Rattle.abc_shape.specs.Routes.{IsUnder, IsChild}
use Rattle.abc_shape.proofs.Ended.{up-number, down-number, tree-number, as-to}
use Rattle.abc_shape.proofs.Steps.{under-le}
use Rattle.abc_shape_laws.specs.Copies.{Comes}
use Rattle.abc_shape_laws.proofs.Trees.{one-child, child-greater, under-of-child}
use Rattle.abc_shape_laws.specs.Flows.{place}
use Rattle.abc_shape_laws.proofs.Rings.{place-agent, place-node}
use Rattle.abc_shape_laws.proofs.Flows.{Rule, agents, next, others, Flow, comes-once, comes-not_back}

pub no-cluster : (p : Layout) → p.shape ≡ Tree → p.shape ≢ Cluster
no-cluster p t c = let two : Tree ≡ Cluster = sym t ∙ c in cc

other-end : (p : Layout) (s from k to : ℕ) → p.shape ≡ Tree → Rule p s from k to → to ≢ from
other-end p s from k to t (agents n low ne) = absurd (n t)
other-end p s from k to t (next r ne e) = absurd (let two : Tree ≡ Ring = sym t ∙ r in cc)
other-end p s from k to t (others x ne) = ne

-- The neighbours of node k: agents at home there, the parent, the children.
data Neighbour (p : Layout) (k to : ℕ) : Type 0 where
  agent : to < p.agents → k ≡ home p to → Neighbour p k to
  parent : (m : ℕ) → to ≡ actor_of p m → IsChild m k → Neighbour p k to
  child : (m : ℕ) → to ≡ actor_of p m → IsChild k m → Neighbour p k to

neighbour-node : (p : Layout) (k to : ℕ) (n : ℕ) → p.shape ≡ Tree → p.agents ≤ to → IsLink p n (actor_of p k) (actor_of p (to - p.agents)) →
    Neighbour p k to
neighbour-node p k to n t high r = elim (tree-number p n k (to - p.agents) t r) [
  | inl (less, up, e) ↦ parent (to - p.agents) (omega arith) (omega arith, sym up)
  | inr (less, up, e) ↦ child (to - p.agents) (omega arith) (omega arith, sym up)
]

neighbour : (p : Layout) (k to n : ℕ) → p.shape ≡ Tree → IsLink p n (actor_of p k) to → Neighbour p k to
neighbour p k to n t r = elim (cases_lt to p.agents) [
  | inl low ↦ elim (down-number p n to k low r) [ inl x ↦ absurd (no-cluster p t x.0) | inr x ↦ agent low x.1 ]
  | inr high ↦ neighbour-node p k to n t high (as-to p n _ to high r)
]

-- A link to an agent leads there, one down the tree to what is under its lower end, one up to all else.
record TreeLeads (p : Layout) (from to goal : ℕ) : Type 0 where
  to_it : to < p.agents → goal ≡ to
  down : (j k : ℕ) → from ≡ actor_of p j → to ≡ actor_of p k → IsChild j k → IsUnder k (place p goal)
  up : (j k : ℕ) → from ≡ actor_of p j → to ≡ actor_of p k → IsChild k j → IsUnder j (place p goal) → ⊥

place-is : (p : Layout) (to k : ℕ) → to ≡ actor_of p k → place p to ≡ k
place-is p to k e = ap (place p) e ∙ place-node p k

-- A link leads to where it ends, and to whatever is at the node where it ends.
at-end : (p : Layout) (from k goal : ℕ) → place p goal ≡ k → TreeLeads p from (actor_of p k) goal
at-end p from k goal here = record {
  to_it = λ low. absurd (omega arith);
  down = λ j m f t c. (0, (let same : k ≡ m = omega arith in here ∙ same));
  up = λ j m f t c u. (
      let low = under-le j (place p goal) u in let more = child-greater m j c in omega arith);
}

tree-arrives : (p : Layout) (from to : ℕ) → TreeLeads p from to to
tree-arrives p from to = elim (cases_lt to p.agents) [
  | inl low ↦ record {
    to_it = λ x. refl;
    down = λ j k f t c. absurd (omega arith);
    up = λ j k f t c u. omega arith;
  }
  | inr high ↦ record {
    to_it = λ x. refl;
    down = λ j k f t c. (0, place-is p to k t);
    up = λ j k f t c u. (let here = place-is p to k t in let low = under-le j (place p to) u in let more = child-greater k j c in omega arith);
  }
]

same-parent : (j k m : ℕ) → IsChild j k → IsChild m k → j ≡ m
same-parent j k m a b = sym a.1 ∙ b.1

tree-behind : (p : Layout) (from k to goal : ℕ) → to ≢ from → Neighbour p k to → TreeLeads p (actor_of p k) to goal →
    TreeLeads p from (actor_of p k) goal
tree-behind p from k to goal ne (agent low e) lead =
    at-end p from k goal (ap (place p) (lead.to_it low) ∙ (place-agent p to low ∙ sym e))
tree-behind p from k to goal ne (parent m t c) lead = record {
  to_it = λ low. absurd (omega arith);
  down = λ j n f e d. absurd (ne (
      let same : n ≡ k = omega arith in
      let one = same-parent j k m (subst (λ (x : ℕ). IsChild j x) same d) c in omega arith));
  up = λ j n f e d u. (
      let same : n ≡ k = omega arith in
      lead.up k m refl t c (under-of-child k j (place p goal) (subst (λ (x : ℕ). IsChild x j) same d) u));
}
tree-behind p from k to goal ne (child m t c) lead = record {
  to_it = λ low. absurd (omega arith);
  down = λ j n f e d. (
      let same : k ≡ n = omega arith in
      subst (λ (x : ℕ). IsUnder x (place p goal)) same (under-of-child k m (place p goal) c (lead.down k m refl t c)));
  up = λ j n f e d u. ne (
      let same : n ≡ k = omega arith in
      let one = one-child k (place p goal) m j c (subst (λ (x : ℕ). IsChild x j) same d) (lead.down k m refl t c) u in omega arith);
}

tree-leaves : (p : Layout) (k to : ℕ) → Neighbour p k to → TreeLeads p (actor_of p k) to (actor_of p k) → ⊥
tree-leaves p k to (agent low e) lead = let x = lead.to_it low in omega arith
tree-leaves p k to (parent m t c) lead = lead.up k m refl t c (0, place-node p k)
tree-leaves p k to (child m t c) lead =
    let x = under-le m _ (lead.down k m refl t c) in let y = place-node p k in let z = child-greater k m c in omega arith

-- The three kinds of neighbours lead to different places.
agent-place : (p : Layout) (k to goal : ℕ) → to < p.agents → k ≡ home p to → TreeLeads p (actor_of p k) to goal → place p goal ≡ k
agent-place p k to goal low e lead = ap (place p) (lead.to_it low) ∙ (place-agent p to low ∙ sym e)

agent-parent : (p : Layout) (k m goal : ℕ) (to : ℕ) → place p goal ≡ k → to ≡ actor_of p m → IsChild m k → TreeLeads p (actor_of p k) to goal → ⊥
agent-parent p k m goal to here t c lead = lead.up k m refl t c (0, here)

agent-child : (p : Layout) (k m goal : ℕ) (to : ℕ) → place p goal ≡ k → to ≡ actor_of p m → IsChild k m → TreeLeads p (actor_of p k) to goal → ⊥
agent-child p k m goal to here t c lead =
    let x = under-le m _ (lead.down k m refl t c) in let z = child-greater k m c in omega arith

parent-child : (p : Layout) (k m n goal to to' : ℕ) → to ≡ actor_of p m → IsChild m k → to' ≡ actor_of p n → IsChild k n →
    TreeLeads p (actor_of p k) to goal → TreeLeads p (actor_of p k) to' goal → ⊥
parent-child p k m n goal to to' t c t' c' lead lead' =
    lead.up k m refl t c (under-of-child k n (place p goal) c' (lead'.down k n refl t' c'))

tree-one : (p : Layout) (k to to' goal : ℕ) → Neighbour p k to → Neighbour p k to' → TreeLeads p (actor_of p k) to goal →
    TreeLeads p (actor_of p k) to' goal → to ≡ to'
tree-one p k to to' goal (agent low e) (agent low' e') lead lead' = sym (lead.to_it low) ∙ lead'.to_it low'
tree-one p k to to' goal (agent low e) (parent m t c) lead lead' = absurd (agent-parent p k m goal to'
    (agent-place p k to goal low e lead) t c lead')
tree-one p k to to' goal (agent low e) (child m t c) lead lead' = absurd (agent-child p k m goal to' (agent-place p k to goal low e lead) t c lead')
tree-one p k to to' goal (parent m t c) (agent low e) lead lead' = absurd (agent-parent p k m goal to
    (agent-place p k to' goal low e lead') t c lead)
tree-one p k to to' goal (parent m t c) (parent n t' c') lead lead' = t ∙ (ap (actor_of p) (same-parent m k n c c') ∙ sym t')
tree-one p k to to' goal (parent m t c) (child n t' c') lead lead' = absurd (parent-child p k m n goal to to' t c t' c' lead lead')
tree-one p k to to' goal (child m t c) (agent low e) lead lead' = absurd (agent-child p k m goal to (agent-place p k to' goal low e lead') t c lead)
tree-one p k to to' goal (child m t c) (parent n t' c') lead lead' = absurd (parent-child p k n m goal to' to t' c' t c lead' lead)
tree-one p k to to' goal (child m t c) (child n t' c') lead lead' =
    t ∙ (ap (actor_of p) (one-child k (place p goal) m n c c' (lead.down k m refl t c) (lead'.down k n refl t' c')) ∙ sym t')

-- The first node is the sender's home.
sent-home : (p : Layout) (s k link : ℕ) → p.shape ≡ Tree → s < p.agents → IsLink p link s (actor_of p k) → home p s ≡ k
sent-home p s k link t low x = elim (up-number p link s k low x) [ inl y ↦ absurd (no-cluster p t y.0) | inr y ↦ sym y.1 ]

tree-not_back : (p : Layout) (s k to : ℕ) → s < p.agents → home p s ≡ k → to ≢ s → Neighbour p k to → TreeLeads p (actor_of p k) to s → ⊥
tree-not_back p s k to s_low here ne (agent low e) lead = ne (sym (lead.to_it low))
tree-not_back p s k to s_low here ne (parent m t c) lead = agent-parent p k m s to (place-agent p s s_low ∙ here) t c lead
tree-not_back p s k to s_low here ne (child m t c) lead = agent-child p k m s to (place-agent p s s_low ∙ here) t c lead

tree-flow : (p : Layout) (s : ℕ) → p.shape ≡ Tree → s < p.agents → Flow p s
tree-flow p s t low = record {
  Fits = λ from to. Unit {0};
  Leads = TreeLeads p;
  arrives = λ from to fit. tree-arrives p from to;
  fits = λ from k link to fit o. tt;
  behind = λ from k link to goal fit o lead. tree-behind p from k to goal (other-end p s from k to t o.rule)
      (neighbour p k to link t o.link_is) lead;
  leaves = λ from k link to o lead. tree-leaves p k to (neighbour p k to link t o.link_is) lead;
  one = λ from k link to link' to' goal o o' lead lead'. tree-one p k to to' goal (neighbour p k to link t o.link_is)
      (neighbour p k to' link' t o'.link_is) lead lead';
  not_back = λ k came link to x o lead. tree-not_back p s k to low (sent-home p s k came t low x) (other-end p s s k to t o.rule)
      (neighbour p k to link t o.link_is) lead;
}

-- So a copy comes by one path to each actor, and none to the sender.
pub tree-once : (p : Layout) (s k l : ℕ) (ms ns : List ℕ) (goal : ℕ) → p.shape ≡ Tree → s < p.agents → IsLink p l s (actor_of p k) →
    Comes p s l ms goal → Comes p s l ns goal → ms ≡ ns
unfolding tree-flow
tree-once p s k l ms ns goal t low x a b = comes-once p s (tree-flow p s t low) l ms ns goal a b s (actor_of p k) x tt

pub tree-not_itself : (p : Layout) (s k l : ℕ) (ms : List ℕ) → p.shape ≡ Tree → s < p.agents → IsLink p l s (actor_of p k) → Comes p s l ms s → ⊥
unfolding tree-flow
tree-not_itself p s k l ms t low x a = comes-not_back p s (tree-flow p s t low) l k ms s low x tt a refl
