-- The copies in a tree, counted.
use Rattle.std.proofs.Common.{◌≡◌, ℕ, zero, suc, ◌+◌, ◌-◌, ◌*◌, ◌<◌, ◌≤◌, List, [], ◌∷◌, ◌++◌, refl, sym, ap, ◌∙◌, subst, arith, inl, inr}
use Rattle.std.specs.Prelude.{◌⊎◌, ◌==◌, nat_lt, Bool, not, true, false, filter, sum_by}
use Rattle.std.proofs.lemmas.Bool.{cases_eq, cases_lt, eq-eqb, ne_eqb, lt-ltb, le-ltb}
use Rattle.std.proofs.lemmas.Nat.{mod_below}
use Rattle.std.proofs.lemmas.List.Sums.{sum_by-cons, sum_by-append}
use Rattle.abc_shape.specs.declared.shape.Shape.TheVariants.{Tree}
use Rattle.abc_shape.specs.declared.layout.Layout.{Layout}
use Rattle.abc_shape.specs.Plans.{IsLayout, actor_of, home, step_up, IsLink}
use Rattle.abc_shape.specs.Routes.{IsUnder, IsChild}
use Rattle.abc_shape.proofs.Ended.{up-number, tree-number, as-from, ends-below}
use Rattle.abc_shape.proofs.Steps.{under-root, under-le, under-child, under-step}
use Rattle.abc_shape_laws.specs.Flows.{bit, times, numbers_from, is_under_in, is_under, place, homed, above, below, neighbours, leads, TreeFlow}
use Rattle.abc_shape_laws.proofs.Trees.{one-child, under-of-child, child-greater, under-or-not}
use Rattle.abc_shape_laws.proofs.Rings.{place-agent}
use Rattle.abc_shape_laws.proofs.TreeFlow.{no-cluster}

pub bit-same : (a b : ℕ) → a ≡ b → bit (a == b) ≡ 1
bit-same a b e = let z : (a == b) ≡ true = eq-eqb a b e in rw z refl

pub bit-other : (a b : ℕ) → (a ≡ b → ⊥) → bit (a == b) ≡ 0
bit-other a b ne = let z : (a == b) ≡ false = ne_eqb a b ne in rw z refl

bit-le : (b : Bool) → bit b ≤ 1
bit-le true = omega arith
bit-le false = omega arith

-- ---- Subtrees, as numbers

under-found : (s top k : ℕ) → k ≤ s → IsUnder top k → is_under_in s top k ≡ true
under-found zero top k low u = eq-eqb k top (let x = under-le top k u in omega arith)
under-found (suc s) top k low u = elim (cases_eq k top) [
  | inl e ↦ (let z : (k == top) ≡ true = eq-eqb k top e in rw z refl)
  | inr ne ↦ (let z : (k == top) ≡ false = ne_eqb k top ne in rw z (under-found s top (step_up k) (omega arith) (under-step top k u ne)))
]

under-missed : (s top k : ℕ) → (IsUnder top k → ⊥) → is_under_in s top k ≡ false
under-missed zero top k off = ne_eqb k top (λ e. off (0, e))
under-missed (suc s) top k off =
    let z : (k == top) ≡ false = ne_eqb k top (λ e. off (0, e)) in
    rw z (under-missed s top (step_up k) (λ u. off (suc u.0, u.1)))

under-yes : (top k : ℕ) → IsUnder top k → bit (is_under top k) ≡ 1
under-yes top k u = ap bit (under-found k top k (omega arith) u)

under-no : (top k : ℕ) → (IsUnder top k → ⊥) → bit (is_under top k) ≡ 0
under-no top k off = ap bit (under-missed k top k off)

not-there : (k c g : ℕ) → IsChild k c → (IsUnder k g → ⊥) → bit (is_under c g) ≡ 0
not-there k c g is_child off = under-no c g (λ u. off (under-of-child k c g is_child u))

first-child : (k : ℕ) → IsChild k (2 * k + 1)
first-child k = (omega arith, omega arith)

second-child : (k : ℕ) → IsChild k (2 * k + 2)
second-child k = (omega arith, omega arith)

not-both : (k c d g : ℕ) → IsChild k c → IsChild k d → (c ≡ d → ⊥) → IsUnder c g → bit (is_under d g) ≡ 0
not-both k c d g a b ne u = under-no d g (λ v. ne (one-child k g c d a b u v))

-- What is under a node is the node itself, or under one of its two children.
under-parts : (k g : ℕ) → bit (is_under k g) ≡ bit (g == k) + bit (is_under (2 * k + 1) g) + bit (is_under (2 * k + 2) g)
under-parts k g = elim (cases_eq g k) [
  | inl e ↦ (
      let a = under-yes k g (0, e) in
      let b = bit-same g k e in
      let x = under-no (2 * k + 1) g (λ u. let y = under-le (2 * k + 1) g u in omega arith) in
      let z = under-no (2 * k + 2) g (λ u. let y = under-le (2 * k + 2) g u in omega arith) in
      omega arith)
  | inr ne ↦ elim (under-or-not k g) [
    | inr off ↦ (
        let a = under-no k g off in let b = bit-other g k ne in
        let x = not-there k (2 * k + 1) g (first-child k) off in let z = not-there k (2 * k + 2) g (second-child k) off in omega arith)
    | inl u ↦ elim (under-child u.0 k g u.1) [
      | inl here ↦ absurd (ne here)
      | inr (c, is_child, v) ↦ elim (cases_eq c (2 * k + 1)) [
        | inl first ↦ (
            let w = subst (λ (x : ℕ). IsUnder x g) first v in
            let a = under-yes k g u in let b = bit-other g k ne in
            let x = under-yes (2 * k + 1) g w in
            let z = not-both k (2 * k + 1) (2 * k + 2) g (first-child k) (second-child k) (λ e. omega arith) w in omega arith)
        | inr other ↦ (
            let second : c ≡ 2 * k + 2 = (let y = is_child.0 in let t = is_child.1 in omega arith) in
            let w = subst (λ (x : ℕ). IsUnder x g) second v in
            let a = under-yes k g u in let b = bit-other g k ne in
            let x = under-yes (2 * k + 2) g w in
            let z = not-both k (2 * k + 2) (2 * k + 1) g (second-child k) (first-child k) (λ e. omega arith) w in omega arith)
      ]
    ]
  ]
]

-- ---- Sums over lists of actors

pub kept : (test : ℕ → Bool) (x : ℕ) (xs : List ℕ) → test x ≡ true → filter test (x ∷ xs) ≡ x ∷ filter test xs
kept test x xs e = rw e refl

pub left-out : (test : ℕ → Bool) (x : ℕ) (xs : List ℕ) → test x ≡ false → filter test (x ∷ xs) ≡ filter test xs
left-out test x xs e = rw e refl

-- Without an actor the sum lacks what it counts for, as often as it is there.
pub sum-but : (f : ℕ → ℕ) (y : ℕ) (xs : List ℕ) → sum_by f (filter (λ x. not (x == y)) xs) + times y xs * f y ≡ sum_by f xs
sum-but f y [] = omega arith
sum-but f y (x ∷ xs) =
    let more = sum-but f y xs in
    let a = sum_by-cons f x xs in
    let b = sum_by-cons (λ x. bit (y == x)) x xs in
    elim (cases_eq x y) [
      | inl e ↦ (
          let z : (x == y) ≡ true = eq-eqb x y e in
          let d = ap (sum_by f) (left-out (λ x. not (x == y)) x xs (ap not z)) in
          let g = bit-same y x (sym e) in
          let h : f x ≡ f y = ap f e in
          let n : times y (x ∷ xs) ≡ 1 + times y xs = omega arith in
          let m : times y (x ∷ xs) * f y ≡ f y + times y xs * f y = ap (λ t. t * f y) n ∙ omega arith in
          omega arith)
      | inr ne ↦ (
          let z : (x == y) ≡ false = ne_eqb x y ne in
          let d = ap (sum_by f) (kept (λ x. not (x == y)) x xs (ap not z)) in
          let d' = sum_by-cons f x (filter (λ x. not (x == y)) xs) in
          let g = bit-other y x (λ e. ne (sym e)) in
          let n : times y (x ∷ xs) ≡ times y xs = omega arith in
          let m : times y (x ∷ xs) * f y ≡ times y xs * f y = ap (λ t. t * f y) n in
          omega arith)
    ]

-- A function that is 1 at one agent alone.
abbrev OnlyAt : Layout → ℕ → (ℕ → ℕ) → Type 0
OnlyAt p g f = (to : ℕ) → to < p.agents → f to ≡ bit (g == to)

abbrev homed_in : Layout → ℕ → ℕ → ℕ → List ℕ
homed_in p k count n = filter (λ i. home p i == k) (numbers_from count n)

abbrev Elsewhere : Layout → ℕ → ℕ → ℕ → ℕ → Type 0
Elsewhere p k g count n = (g < n) ⊎ ((n + count ≤ g) ⊎ (home p g ≡ k → ⊥))

one-on : (p : Layout) (k g count n : ℕ) → Elsewhere p k g (suc count) n → Elsewhere p k g count (n + 1)
one-on p k g count n (inl a) = inl (omega arith)
one-on p k g count n (inr (inl a)) = inr (inl (omega arith))
one-on p k g count n (inr (inr a)) = inr (inr a)

not-here : (p : Layout) (k g count n : ℕ) → Elsewhere p k g (suc count) n → home p n ≡ k → g ≡ n → ⊥
not-here p k g count n (inl a) h e = omega arith
not-here p k g count n (inr (inl a)) h e = omega arith
not-here p k g count n (inr (inr a)) h e = a (ap (home p) e ∙ h)

none-homed : (p : Layout) (k g : ℕ) (f : ℕ → ℕ) → OnlyAt p g f → (count n : ℕ) → n + count ≤ p.agents → Elsewhere p k g count n →
    sum_by f (homed_in p k count n) ≡ 0
none-homed p k g f only zero n low away = refl
none-homed p k g f only (suc count) n low away =
    let more = none-homed p k g f only count (n + 1) (omega arith) (one-on p k g count n away) in
    elim (cases_eq (home p n) k) [
      | inl h ↦ (
          let z : (home p n == k) ≡ true = eq-eqb (home p n) k h in
          let d = ap (sum_by f) (kept (λ i. home p i == k) n (numbers_from count (n + 1)) z) in
          let d' = sum_by-cons f n (homed_in p k count (n + 1)) in
          let x = only n (omega arith) in
          let y = bit-other g n (not-here p k g count n away h) in
          omega arith)
      | inr h ↦ (
          let z : (home p n == k) ≡ false = ne_eqb (home p n) k h in
          let d = ap (sum_by f) (left-out (λ i. home p i == k) n (numbers_from count (n + 1)) z) in
          omega arith)
    ]

one-homed : (p : Layout) (k g : ℕ) (f : ℕ → ℕ) → OnlyAt p g f → home p g ≡ k → (count n : ℕ) → n + count ≤ p.agents → n ≤ g → g < n + count →
    sum_by f (homed_in p k count n) ≡ 1
one-homed p k g f only here zero n low a b = absurd (omega arith)
one-homed p k g f only here (suc count) n low a b = elim (cases_eq (home p n) k) [
  | inl h ↦ (
      let z : (home p n == k) ≡ true = eq-eqb (home p n) k h in
      let d = ap (sum_by f) (kept (λ i. home p i == k) n (numbers_from count (n + 1)) z) in
      let d' = sum_by-cons f n (homed_in p k count (n + 1)) in
      let x = only n (omega arith) in
      elim (cases_eq g n) [
        | inl e ↦ (
            let y = bit-same g n e in
            let more = none-homed p k g f only count (n + 1) (omega arith) (inl (omega arith)) in omega arith)
        | inr ne ↦ (
            let y = bit-other g n ne in
            let more = one-homed p k g f only here count (n + 1) (omega arith) (omega arith) (omega arith) in omega arith)
      ])
  | inr h ↦ (
      let z : (home p n == k) ≡ false = ne_eqb (home p n) k h in
      let d = ap (sum_by f) (left-out (λ i. home p i == k) n (numbers_from count (n + 1)) z) in
      let ne : g ≡ n → ⊥ = (λ e. h (ap (home p) (sym e) ∙ here)) in
      let more = one-homed p k g f only here count (n + 1) (omega arith) (omega arith) (omega arith) in omega arith)
]

sum-one : (f : ℕ → ℕ) (x : ℕ) → sum_by f (x ∷ []) ≡ f x
sum-one f x = sum_by-cons f x [] ∙ omega arith

above-root : (p : Layout) (f : ℕ → ℕ) (k : ℕ) → k ≡ 0 → sum_by f (above p k) ≡ 0
above-root p f k e = let z : (k == 0) ≡ true = eq-eqb k 0 e in rw z refl

above-other : (p : Layout) (f : ℕ → ℕ) (k : ℕ) → 0 < k → sum_by f (above p k) ≡ f (actor_of p (step_up k))
above-other p f k some = let z : (k == 0) ≡ false = ne_eqb k 0 (λ e. omega arith) in rw z (sum-one f (actor_of p (step_up k)))

below-there : (p : Layout) (f : ℕ → ℕ) (c : ℕ) → c < p.nodes → sum_by f (below p c) ≡ f (actor_of p c)
below-there p f c low = let z : nat_lt c p.nodes ≡ true = lt-ltb c p.nodes low in rw z (sum-one f (actor_of p c))

below-none : (p : Layout) (f : ℕ → ℕ) (c : ℕ) → p.nodes ≤ c → sum_by f (below p c) ≡ 0
below-none p f c high = let z : nat_lt c p.nodes ≡ false = le-ltb c p.nodes high in rw z refl

sum-parts : (p : Layout) (f : ℕ → ℕ) (k : ℕ) →
    sum_by f (neighbours p k) ≡ sum_by f (homed p k) + sum_by f (above p k) + sum_by f (below p (2 * k + 1)) + sum_by f (below p (2 * k + 2))
sum-parts p f k =
    let a = sum_by-append f (homed p k ++ above p k ++ below p (2 * k + 1)) (below p (2 * k + 2)) in
    let b = sum_by-append f (homed p k ++ above p k) (below p (2 * k + 1)) in
    let c = sum_by-append f (homed p k) (above p k) in
    omega arith

-- ---- The flow

-- Where a link of a tree leads, by what its ends are.
leads-agent : (p : Layout) (from to goal : ℕ) → to < p.agents → leads p from to goal ≡ bit (goal == to)
leads-agent p from to goal low = let z : nat_lt to p.agents ≡ true = lt-ltb to p.agents low in rw z refl

leads-from : (p : Layout) (from k goal : ℕ) → from < p.agents → leads p from (actor_of p k) goal ≡ 1 - bit (goal == from)
leads-from p from k goal low =
    let z : nat_lt (p.agents + k) p.agents ≡ false = le-ltb (p.agents + k) p.agents (omega arith) in
    let y : nat_lt from p.agents ≡ true = lt-ltb from p.agents low in rw (z, y) refl

node-of : (p : Layout) (k : ℕ) → actor_of p k - p.agents ≡ k
node-of p k = omega arith

leads-down : (p : Layout) (j k goal : ℕ) → j < k → leads p (actor_of p j) (actor_of p k) goal ≡ bit (is_under k (place p goal))
leads-down p j k goal less =
    let z : nat_lt (p.agents + k) p.agents ≡ false = le-ltb (p.agents + k) p.agents (omega arith) in
    let y : nat_lt (p.agents + j) p.agents ≡ false = le-ltb (p.agents + j) p.agents (omega arith) in
    let x : nat_lt (p.agents + j) (p.agents + k) ≡ true = lt-ltb (p.agents + j) (p.agents + k) (omega arith) in
    rw (z, y, x) (ap (λ m. bit (is_under m (place p goal))) (node-of p k))

leads-up : (p : Layout) (j k goal : ℕ) → k < j → leads p (actor_of p j) (actor_of p k) goal ≡ 1 - bit (is_under j (place p goal))
leads-up p j k goal less =
    let z : nat_lt (p.agents + k) p.agents ≡ false = le-ltb (p.agents + k) p.agents (omega arith) in
    let y : nat_lt (p.agents + j) p.agents ≡ false = le-ltb (p.agents + j) p.agents (omega arith) in
    let x : nat_lt (p.agents + j) (p.agents + k) ≡ false = le-ltb (p.agents + j) (p.agents + k) (omega arith) in
    rw (z, y, x) (ap (λ m. 1 - bit (is_under m (place p goal))) (node-of p j))

-- What a copy came from, of node k.
pub data Source (p : Layout) (k from : ℕ) : Type 0 where
  agent : from < p.agents → home p from ≡ k → Source p k from
  parent : (m : ℕ) → from ≡ actor_of p m → IsChild m k → Source p k from
  child : (m : ℕ) → from ≡ actor_of p m → IsChild k m → m < p.nodes → Source p k from

source-node : (p : Layout) (k from link : ℕ) → IsLayout p → p.shape ≡ Tree → p.agents ≤ from →
    IsLink p link (actor_of p (from - p.agents)) (actor_of p k) → Source p k from
source-node p k from link l t high r = elim (tree-number p link (from - p.agents) k t r) [
  | inl (less, up, e) ↦ child (from - p.agents) (omega arith) (omega arith, sym up) (let x = (ends-below p link _ _ l r).0 in omega arith)
  | inr (less, up, e) ↦ parent (from - p.agents) (omega arith) (omega arith, sym up)
]

pub source : (p : Layout) (k from link : ℕ) → IsLayout p → p.shape ≡ Tree → IsLink p link from (actor_of p k) → Source p k from
source p k from link l t r = elim (cases_lt from p.agents) [
  | inl low ↦ elim (up-number p link from k low r) [ inl x ↦ absurd (no-cluster p t x.0) | inr x ↦ agent low (sym x.1) ]
  | inr high ↦ source-node p k from link l t high (as-from p link from _ high r)
]

-- A link and the link back lead to different places, and together to each.
both-ways : (p : Layout) (k from goal : ℕ) → Source p k from → leads p from (actor_of p k) goal + leads p (actor_of p k) from goal ≡ 1
both-ways p k from goal (agent low h) =
    let a = leads-from p from k goal low in let b = leads-agent p (actor_of p k) from goal low in let c = bit-le (goal == from) in omega arith
both-ways p k from goal (parent m e is_child) =
    let less = child-greater m k is_child in
    let a = ap (λ x. leads p x (actor_of p k) goal) e ∙ leads-down p m k goal less in
    let b = ap (λ x. leads p (actor_of p k) x goal) e ∙ leads-up p k m goal less in
    let c = bit-le (is_under k (place p goal)) in omega arith
both-ways p k from goal (child m e is_child low) =
    let less = child-greater k m is_child in
    let a = ap (λ x. leads p x (actor_of p k) goal) e ∙ leads-up p m k goal less in
    let b = ap (λ x. leads p (actor_of p k) x goal) e ∙ leads-down p k m goal less in
    let c = bit-le (is_under m (place p goal)) in omega arith

-- It is one of the neighbours, once.
only-bit : (p : Layout) (y : ℕ) → OnlyAt p y (λ x. bit (y == x))
only-bit p y to low = refl

above-bit : (p : Layout) (y k : ℕ) → ((0 < k) → y ≡ actor_of p (step_up k) → ⊥) → times y (above p k) ≡ 0
above-bit p y k off = elim (cases_eq k 0) [
  | inl e ↦ above-root p (λ x. bit (y == x)) k e
  | inr ne ↦ (let some : 0 < k = omega arith in above-other p (λ x. bit (y == x)) k some ∙ bit-other y _ (off some))
]

below-bit : (p : Layout) (y c : ℕ) → (y ≡ actor_of p c → ⊥) → times y (below p c) ≡ 0
below-bit p y c off = elim (cases_lt c p.nodes) [
  | inl low ↦ below-there p (λ x. bit (y == x)) c low ∙ bit-other y _ off
  | inr high ↦ below-none p (λ x. bit (y == x)) c high
]

pub once-there : (p : Layout) (k from : ℕ) → Source p k from → times from (neighbours p k) ≡ 1
once-there p k from (agent low h) =
    let a = sum-parts p (λ x. bit (from == x)) k in
    let b = one-homed p k from (λ x. bit (from == x)) (only-bit p from) h p.agents 0 (omega arith) (omega arith) (omega arith) in
    let c = above-bit p from k (λ some e. omega arith) in
    let d = below-bit p from (2 * k + 1) (λ e. omega arith) in
    let g = below-bit p from (2 * k + 2) (λ e. omega arith) in omega arith
once-there p k from (parent m e is_child) =
    let up = is_child.1 in let some = is_child.0 in
    let a = sum-parts p (λ x. bit (from == x)) k in
    let b = none-homed p k from (λ x. bit (from == x)) (only-bit p from) p.agents 0 (omega arith) (inr (inl (omega arith))) in
    let c = above-other p (λ x. bit (from == x)) k some ∙ bit-same from _ (e ∙ ap (actor_of p) (sym up)) in
    let d = below-bit p from (2 * k + 1) (λ y. omega arith) in
    let g = below-bit p from (2 * k + 2) (λ y. omega arith) in omega arith
once-there p k from (child m e is_child low) =
    let up = is_child.1 in let some = is_child.0 in
    let a = sum-parts p (λ x. bit (from == x)) k in
    let b = none-homed p k from (λ x. bit (from == x)) (only-bit p from) p.agents 0 (omega arith) (inr (inl (omega arith))) in
    let c = above-bit p from k (λ more y. omega arith) in
    elim (cases_eq m (2 * k + 1)) [
      | inl first ↦ (
          let d = below-there p (λ x. bit (from == x)) (2 * k + 1) (omega arith) ∙ bit-same from _ (e ∙ ap (actor_of p) first) in
          let g = below-bit p from (2 * k + 2) (λ y. omega arith) in omega arith)
      | inr other ↦ (
          let second : m ≡ 2 * k + 2 = omega arith in
          let d = below-bit p from (2 * k + 1) (λ y. omega arith) in
          let g = below-there p (λ x. bit (from == x)) (2 * k + 2) (omega arith) ∙ bit-same from _ (e ∙ ap (actor_of p) second) in omega arith)
    ]

-- Goals at node k, the node and its agents.
place-past : (p : Layout) (g : ℕ) → p.agents ≤ g → place p g ≡ g - p.agents
place-past p g high = let z : nat_lt g p.agents ≡ false = le-ltb g p.agents high in rw z refl

to-agents : (p : Layout) (k g : ℕ) → OnlyAt p g (λ to. leads p (actor_of p k) to g)
to-agents p k g to low = leads-agent p (actor_of p k) to g low

goals-here : (p : Layout) (k g : ℕ) → bit (g == actor_of p k) + sum_by (λ to. leads p (actor_of p k) to g) (homed p k) ≡ bit (place p g == k)
goals-here p k g = elim (cases_lt g p.agents) [
  | inl low ↦ (
      let at = place-agent p g low in
      let a = bit-other g (actor_of p k) (λ e. omega arith) in
      elim (cases_eq (place p g) k) [
        | inl e ↦ (
            let b = one-homed p k g
            (λ to. leads p (actor_of p k) to g) (to-agents p k g) (sym at ∙ e) p.agents 0 (omega arith) (omega arith) (omega arith) in
            let c = bit-same (place p g) k e in omega arith)
        | inr ne ↦ (
            let b = none-homed p k g (λ to. leads p (actor_of p k) to g) (to-agents p k g) p.agents 0 (omega arith) (inr (inr
            (λ e. ne (at ∙ e)))) in
            let c = bit-other (place p g) k ne in omega arith)
      ])
  | inr high ↦ (
      let at = place-past p g high in
      let b = none-homed p k g (λ to. leads p (actor_of p k) to g) (to-agents p k g) p.agents 0 (omega arith) (inr (inl (omega arith))) in
      elim (cases_eq (place p g) k) [
        | inl e ↦ (let a = bit-same g (actor_of p k) (omega arith) in let c = bit-same (place p g) k e in omega arith)
        | inr ne ↦ (let a = bit-other g (actor_of p k) (λ e. ne (omega arith)) in let c = bit-other (place p g) k ne in omega arith)
      ])
]

place-in : (p : Layout) (g : ℕ) → IsLayout p → g < p.agents + p.nodes → place p g < p.nodes
place-in p g l low = elim (cases_lt g p.agents) [
  | inl x ↦ (let at = place-agent p g x in let y = mod_below g p.nodes (omega (arith, l.some_nodes)) in omega arith)
  | inr x ↦ (let at = place-past p g x in omega arith)
]

goals-above : (p : Layout) (k g : ℕ) → sum_by (λ to. leads p (actor_of p k) to g) (above p k) + bit (is_under k (place p g)) ≡ 1
goals-above p k g = elim (cases_eq k 0) [
  | inl e ↦ (
      let a = above-root p (λ to. leads p (actor_of p k) to g) k e in
      let b = under-yes k (place p g) (subst (λ (x : ℕ). IsUnder x (place p g)) (sym e) (under-root (place p g))) in omega arith)
  | inr ne ↦ (
      let a = above-other p (λ to. leads p (actor_of p k) to g) k (omega arith) in
      let b = leads-up p k (step_up k) g (omega arith) in
      let c = bit-le (is_under k (place p g)) in omega arith)
]

goals-below : (p : Layout) (k c g : ℕ) → place p g < p.nodes → k < c →
    sum_by (λ to. leads p (actor_of p k) to g) (below p c) ≡ bit (is_under c (place p g))
goals-below p k c g there less = elim (cases_lt c p.nodes) [
  | inl low ↦ below-there p (λ to. leads p (actor_of p k) to g) c low ∙ leads-down p k c g less
  | inr high ↦ below-none p (λ to. leads p (actor_of p k) to g) c high ∙ sym (under-no c (place p g)
      (λ u. let x = under-le c (place p g) u in omega arith))
]

-- Each goal is at node k, or one of its links leads there.
all-goals : (p : Layout) (k g : ℕ) → IsLayout p → g < p.agents + p.nodes →
    bit (g == actor_of p k) + sum_by (λ to. leads p (actor_of p k) to g) (neighbours p k) ≡ 1
all-goals p k g l low =
    let there = place-in p g l low in
    let a = sum-parts p (λ to. leads p (actor_of p k) to g) k in
    let b = goals-here p k g in
    let c = goals-above p k g in
    let d = goals-below p k (2 * k + 1) g there (omega arith) in
    let e = goals-below p k (2 * k + 2) g there (omega arith) in
    let parts = under-parts k (place p g) in omega arith

pub tree-counts : TreeFlow
tree-counts p k from link goal l t r low =
    let s = source p k from link l t r in
    let a = all-goals p k goal l low in
    let b = both-ways p k from goal s in
    let c = once-there p k from s in
    let d = sum-but (λ to. leads p (actor_of p k) to goal) from (neighbours p k) in
    let m : times from (neighbours p k) * leads p (actor_of p k) from goal ≡ leads p (actor_of p k) from goal = ap
    (λ n. n * leads p (actor_of p k) from goal) c ∙ omega arith in
    omega arith
