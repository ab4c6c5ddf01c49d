-- To whom a node of a tree sends on, as a list.
use Rattle.std.proofs.Common.{◌≡◌, ℕ, zero, suc, ◌+◌, ◌-◌, ◌*◌, ◌<◌, ◌≤◌, [], ◌∷◌, ◌++◌, refl, sym, ap, ◌∙◌, arith, inl, inr}
use Rattle.std.specs.Prelude.{◌==◌, nat_lt, not, true, false, filter, All}
use Rattle.std.proofs.lemmas.Bool.{cases_eq, cases_lt, eq-eqb, ne_eqb, lt-ltb, le-ltb}
use Rattle.std.proofs.lemmas.List.Elements.{All-nil, All-cons, All-append, All-filter, All-same}
use Rattle.abc_shape.specs.declared.shape.Shape.TheVariants.{Ring, Tree}
use Rattle.abc_shape.specs.declared.layout.Layout.{Layout}
use Rattle.abc_shape.specs.Plans.{IsLayout, actor_of, home, step_up, IsLink, home_down, tree_up, tree_down}
use Rattle.abc_shape.proofs.Ended.{down-number, tree-number, as-to, ends-below}
use Rattle.abc_shape_laws.specs.Copies.{SendsOn, to_agent, to_successor, to_neighbour}
use Rattle.abc_shape_laws.specs.Flows.{bit, times, numbers_from, homed, above, below, neighbours, sent_on, TreeSends}
use Rattle.abc_shape_laws.proofs.Links.{numbers-one}
use Rattle.abc_shape_laws.proofs.TreeFlow.{no-cluster}
use Rattle.abc_shape_laws.proofs.Counts.{Source, agent, parent, child, source, once-there, sum-but, bit-same, bit-other, kept, left-out}

-- Whom a link from node k leads to.
target-node : (p : Layout) (k to link : ℕ) → IsLayout p → p.shape ≡ Tree → p.agents ≤ to →
    IsLink p link (actor_of p k) (actor_of p (to - p.agents)) → Source p k to
target-node p k to link l t high r = elim (tree-number p link k (to - p.agents) t r) [
  | inl (less, up, e) ↦ parent (to - p.agents) (omega arith) (omega arith, sym up)
  | inr (less, up, e) ↦ child (to - p.agents) (omega arith) (omega arith, sym up) (let x = (ends-below p link _ _ l r).1 in omega arith)
]

target : (p : Layout) (k to link : ℕ) → IsLayout p → p.shape ≡ Tree → IsLink p link (actor_of p k) to → Source p k to
target p k to link l t r = elim (cases_lt to p.agents) [
  | inl low ↦ elim (down-number p link to k low r) [ inl x ↦ absurd (no-cluster p t x.0) | inr x ↦ agent low (sym x.1) ]
  | inr high ↦ target-node p k to link l t high (as-to p link _ to high r)
]

-- Each neighbour is in the list once, but the one from which it came.
counted : (p : Layout) (k from to : ℕ) → Source p k from → Source p k to → times to (sent_on p k from) + bit (to == from) ≡ 1
counted p k from to s t =
    let a = once-there p k from s in
    let b = once-there p k to t in
    let c = sum-but (λ x. bit (to == x)) from (neighbours p k) in
    let m : times from (neighbours p k) * bit (to == from) ≡ bit (to == from) = ap (λ n. n * bit (to == from)) a ∙ omega arith in
    omega arith

differs : (p : Layout) (s k from to came link : ℕ) → p.shape ≡ Tree → IsLink p came from (actor_of p k) → IsLink p link (actor_of p k) to →
    SendsOn p s k came link → to ≡ from → ⊥
differs p s k from to came link t r x (to_agent i n low ne y) e = n t
differs p s k from to came link t r x (to_successor ring ne y) e = let two : Tree ≡ Ring = sym t ∙ ring in cc
differs p s k from to came link t r x (to_neighbour f g u r' y ne) e =
    ne ((numbers-one p link _ _ _ _ y x).1 ∙ (e ∙ (numbers-one p came _ _ _ _ r r').0))

-- Who is in the list has a link.
abbrev Linked : Layout → ℕ → ℕ → Type 0
Linked p k to = (link : ℕ) × IsLink p link (actor_of p k) to

homed-linked : (p : Layout) (k : ℕ) → p.shape ≡ Tree → (count n : ℕ) → n + count ≤ p.agents →
    All (Linked p k) (filter (λ i. home p i == k) (numbers_from count n))
homed-linked p k t zero n low = All-nil (Linked p k)
homed-linked p k t (suc count) n low =
    let more = homed-linked p k t count (n + 1) (omega arith) in
    elim (cases_eq (home p n) k) [
      | inl h ↦ (
          let z : (home p n == k) ≡ true = eq-eqb (home p n) k h in
          let x : IsLink p (2 * n + 1) (actor_of p k) n = home_down n (no-cluster p t) (omega arith) (ap (actor_of p) (sym h)) refl refl in
          All-same (Linked p k) _ _ (kept (λ i. home p i == k) n (numbers_from count (n + 1)) z) (All-cons (Linked p k) n _ (2 * n + 1, x) more))
      | inr h ↦ (
          let z : (home p n == k) ≡ false = ne_eqb (home p n) k h in
          All-same (Linked p k) _ _ (left-out (λ i. home p i == k) n (numbers_from count (n + 1)) z) more)
    ]

above-linked : (p : Layout) (k : ℕ) → p.shape ≡ Tree → k < p.nodes → All (Linked p k) (above p k)
above-linked p k t low = elim (cases_eq k 0) [
  | inl e ↦ (let z : (k == 0) ≡ true = eq-eqb k 0 e in let made : above p k ≡ [] = rw z refl in
      All-same (Linked p k) _ _ made (All-nil (Linked p k)))
  | inr ne ↦ (
      let z : (k == 0) ≡ false = ne_eqb k 0 ne in
      let made : above p k ≡ actor_of p (step_up k) ∷ [] = rw z refl in
      let x : IsLink p (2 * p.agents + 2 * (k - 1)) (actor_of p k) (actor_of p (step_up k)) = tree_up k t (omega arith) low refl refl refl in
      All-same (Linked p k) _ _ made (All-cons (Linked p k) _ [] (2 * p.agents + 2 * (k - 1), x) (All-nil (Linked p k))))
]

below-linked : (p : Layout) (k c : ℕ) → p.shape ≡ Tree → step_up c ≡ k → 0 < c → All (Linked p k) (below p c)
below-linked p k c t up some = elim (cases_lt c p.nodes) [
  | inl low ↦ (
      let z : nat_lt c p.nodes ≡ true = lt-ltb c p.nodes low in
      let made : below p c ≡ actor_of p c ∷ [] = rw z refl in
      let x : IsLink p (2 * p.agents + 2 * (c - 1) + 1) (actor_of p k) (actor_of p c) = tree_down c t some low (ap (actor_of p)
      (sym up)) refl refl in
      All-same (Linked p k) _ _ made (All-cons (Linked p k) _ [] (2 * p.agents + 2 * (c - 1) + 1, x) (All-nil (Linked p k))))
  | inr high ↦ (
      let z : nat_lt c p.nodes ≡ false = le-ltb c p.nodes high in
      let made : below p c ≡ [] = rw z refl in All-same (Linked p k) _ _ made (All-nil (Linked p k)))
]

all-linked : (p : Layout) (k : ℕ) → p.shape ≡ Tree → k < p.nodes → All (Linked p k) (neighbours p k)
all-linked p k t low =
    All-append (Linked p k) (homed p k ++ above p k ++ below p (2 * k + 1)) (below p (2 * k + 2))
    (All-append (Linked p k) (homed p k ++ above p k) (below p (2 * k + 1))
    (All-append (Linked p k) (homed p k) (above p k) (homed-linked p k t p.agents 0 (omega arith)) (above-linked p k t low))
    (below-linked p k (2 * k + 1) t (omega arith) (omega arith)))
    (below-linked p k (2 * k + 2) t (omega arith) (omega arith))

pub tree-sends : TreeSends
tree-sends p k from came l t low r =
    let s = source p k from came l t r in
    record {
      linked = All-filter (λ to. not (to == from)) (Linked p k) (neighbours p k) (all-linked p k t low);
      listed = λ sender link to sends x. (
          let a = counted p k from to s (target p k to link l t x) in
          let b = bit-other to from (differs p sender k from to came link t r x sends) in omega arith);
      not_listed = λ sender link to not_sent x. elim (cases_eq to from) [
        | inl e ↦ (let a = counted p k from to s (target p k to link l t x) in let b = bit-same to from e in omega arith)
        | inr ne ↦ absurd (not_sent (to_neighbour from to t r x ne))
      ];
    }
